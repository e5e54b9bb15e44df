use Rattle.std.proofs.Common.{◌≡◌}
use Rattle.fuse_workers.specs.Answered.{IsServed}
use Rattle.fuse_loop.specs.Answering.{answering}
use Rattle.fuse_workers.proofs.worker.answer_jobs.Given as goal

-- each job taken so far was answered
abbrev pub invariant-loop : goal.invariant-loop
invariant-loop g l =
    (goal.iterator-loop g).can_next l.iterator' × (goal.iterator-loop g).is_finite l.iterator'
    × (l.job_pass.line ≡ l.context.jobs.now) × (l.frame_pass.line ≡ l.context.frames.now)
    × IsServed (answering (g.W.Work.owed l.context.work.now) g.W.Work.DEFERS) l.job_pass.hand l.frame_pass.hand
