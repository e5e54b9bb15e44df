use Rattle.std.proofs.Common.{◌≡◌}
use Rattle.std.specs.List.{concat}
use Rattle.fuse_wire.specs.ByteSink.{PutsBytes}
use Rattle.fuse_hello.specs.Generated.{x_after}
use Rattle.fuse_hello.proofs.Generating.{front}
use Rattle.fuse_hello.proofs.generator.write_stream.Given as goal

abbrev pub invariant-loop-place : goal.invariant-loop-place
invariant-loop-place g l = record {
  state : l.x ≡ x_after l.seed l.place;
  put : PutsBytes (concat (front l.seed l.place)) (g.O.ByteSink.told l.fn.output) (g.O.ByteSink.told l.output);
}
