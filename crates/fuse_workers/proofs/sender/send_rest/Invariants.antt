use Rattle.std.proofs.Common.{◌≡◌, ◌++◌, List}
use Rattle.fuse_line.specs.Hand.{hand}
use Rattle.fuse_line.specs.declared.hand.Kind.TheVariants.{First}
use Rattle.fuse_reply.specs.declared.parcel.Parcel.{Parcel}
use Rattle.fuse_workers.specs.Relays.{Relays, relay_of}
use Rattle.fuse_workers.proofs.sender.send_rest.Given as goal

-- each parcel taken so far went to the sink
abbrev pub invariant-loop : goal.invariant-loop
invariant-loop g l =
    (l.pass.line ≡ l.frames)
    × (more : List Parcel) × (l.pass.hand ≡ hand First l.fn.pass.hand.others l.fn.pass.hand.put (l.fn.pass.hand.taken ++ more))
    × Relays more (relay_of l.fn.relay.outlet l.fn.relay.book) (relay_of l.relay.outlet l.relay.book)
