use Rattle.std.proofs.Common.{◌≡◌, []}
use Rattle.fuse_device.specs.Writing.{Carries}
use Rattle.fuse_device.proofs.frame_writer.FrameWriter.write_apart.Given as goal

abbrev pub invariant-loop : goal.invariant-loop
invariant-loop g l =
    Carries [] l.initial.self.held.items l.self.held.items (g.W.Write.contents l.initial.self.writer) (g.W.Write.contents l.self.writer)
    × (l.self.passed_over ≡ l.initial.self.passed_over)
