use Rattle.std.proofs.Common.{◌≡◌, [], take, rules}
use Rattle.std.proofs.lemmas.List.{nil_from_length}
use Rattle.fuse_device.proofs.Carrying.{carries_emptied}
use Rattle.fuse_device.proofs.frame_writer.FrameWriter.write_apart.Goals as goal

pub returns-then-is_empty-clause-through : goal.returns-then-is_empty-clause-through
returns-then-is_empty-clause-through g c =
    let empty : c.loop.self.held.items ≡ [] = search (rules, nil_from_length) in (
      carries_emptied (take c.in_ok-count.count c.args.piece.now) _ _ _ _ _ _ c.loop.invariant.0 empty empty c.in_ok-count.ensures.bytes,
      c.loop.invariant.1,
    )
