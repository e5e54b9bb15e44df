use Rattle.std.proofs.Common.{[]}
use Rattle.fuse_wire.proofs.Devices.{Takes-then}
use Rattle.fuse_loop.proofs.Taking.{NothingLeft-after}
use Rattle.fuse_loop.proofs.intake.Intake.take_message.Goals as goal

pub returns-in-Gone : goal.returns-in-Gone
returns-in-Gone g c =
    let so_far = c.loop.invariant in
    let gone = c.in-Gone.ensures in (
      Takes-then [] [] _ _ _ so_far.nothing gone.1,
      NothingLeft-after _ _ gone.0 gone.1,
      so_far.received,
    )
