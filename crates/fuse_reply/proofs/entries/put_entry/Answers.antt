-- What was put is the entry, piece behind piece.
use Rattle.std.proofs.Common.{◌++◌, ◌-◌, ◌%◌, length, ap, ◌∙◌, arith}
use Rattle.fuse_reply.proofs.ListingLaws.{pieces}
use Rattle.fuse_reply.proofs.entries.put_entry.Goals as goal

pub returns-clause-taken : goal.returns-clause-taken
returns-clause-taken c = λ taken.
    pieces c.args.held.now.items c.args.lookup.now c.args.head.now c.args.name.now c.put.new.held.items c.put-2.new.held.items
    c.put-3.new.held.items c.put-4.new.held.items ((8 - length c.args.name.now % 8) % 8) (omega arith)
    (c.put.ensures.items ∙ ap (λ held. held ++ c.args.lookup.now) c.make_room.ensures.same)
    c.put-2.ensures.items c.put-3.ensures.items c.put-4.ensures.items
