use Rattle.std.proofs.Common.{length, ◌-◌, ◌≤◌, take}
use Rattle.fuse_wire.specs.ByteSource.{TakesBytes}
use Rattle.fuse_wire.proofs.stream_source.fill.Given as goal

abbrev pub invariant-loop-count : goal.invariant-loop-count
invariant-loop-count g l = record {
  fits : l.count ≤ length l.piece;
  taken : TakesBytes (take l.count l.piece) (g.I.ByteSource.told l.fn.inner) (g.I.ByteSource.told l.inner);
}

abbrev pub decreases-loop-count : goal.decreases-loop-count
decreases-loop-count g l = length l.initial.piece - l.count
