-- The header begins with the length of the whole frame.
use Rattle.std.proofs.Common.{ap, ◌∙◌, rules}
use Rattle.fuse_wire.specs.Numbers.{number}
use Rattle.fuse_reply.proofs.FrameLength.{number-out_header}
use Rattle.fuse_reply.proofs.packed.header_of.Goals as goal

pub returns-clause-bytes : goal.returns-clause-bytes
returns-clause-bytes c = search rules

pub returns-clause-length : goal.returns-clause-length
returns-clause-length c =
    ap (λ header. number header 0 4) (returns-clause-bytes c) ∙ number-out_header c.args.id.0 c.args.payload c.args.status c.requires
