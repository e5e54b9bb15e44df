use Rattle.std.proofs.Common.{◌≡◌}
use Rattle.fuse_workers.specs.Relays.{IsRelayed, relay_of}
use Rattle.fuse_workers.proofs.sender.send_parcels.Given as goal

-- each parcel taken so far went to the sink
abbrev pub invariant-loop : goal.invariant-loop
invariant-loop g l =
    (goal.iterator-loop g).can_next l.iterator' × (goal.iterator-loop g).is_finite l.iterator'
    × (l.pass.line ≡ l.frames) × IsRelayed l.pass.hand (relay_of l.fn.relay.outlet l.fn.relay.book) (relay_of l.relay.outlet l.relay.book)
