use Rattle.std.proofs.Common.{length, take, ◌-◌, ◌≤◌}
use Rattle.fuse_wire.specs.ByteSink.{PutsBytes}
use Rattle.fuse_wire.proofs.byte_sink.write_all.Given as goal

abbrev pub invariant-loop-count : goal.invariant-loop-count
invariant-loop-count g l = record {
  within : l.count ≤ length l.piece;
  put : PutsBytes (take l.count l.piece) (g.O.ByteSink.told l.fn.output) (g.O.ByteSink.told l.output);
}

abbrev pub decreases-loop-count : goal.decreases-loop-count
decreases-loop-count g l = length l.piece - l.count
