use Rattle.std.proofs.Common.{◌+◌, rules}
use Rattle.fuse_workers.proofs.threads.join_workers.Goals as goal

pub loop-worker-preserved : goal.loop-worker-preserved
loop-worker-preserved g c = (
  search rules,
  search rules,
  search rules,
  search rules,
  search rules,
  search rules,
  (λ k d below. let h = c.loop-worker.invariant.6 (k + 1) d in grind rules),
  (λ ms h. c.join_one.ensures.caller ms (c.loop-worker.invariant.7 ms h)),
  search rules,
)
