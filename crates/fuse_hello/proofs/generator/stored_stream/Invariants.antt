use Rattle.std.proofs.Common.{◌≡◌}
use Rattle.fuse_hello.specs.Generated.{x_after}
use Rattle.fuse_hello.proofs.Generating.{front}
use Rattle.fuse_hello.proofs.generator.stored_stream.Given as goal

abbrev pub invariant-loop-place : goal.invariant-loop-place
invariant-loop-place l = record {
  state : l.x ≡ x_after l.seed l.place;
  stored : l.messages.items ≡ front l.seed l.place;
}
