use Rattle.std.proofs.Common.{◌≡◌, replicate}
use Rattle.fuse_core.specs.declared.state.WorkerHand.TheVariants.{Empty}
use Rattle.fuse_core.proofs.state.empty_hands.Given as goal

abbrev pub invariant-loop-worker : goal.invariant-loop-worker
invariant-loop-worker l = l.hands.items ≡ replicate l._worker Empty
