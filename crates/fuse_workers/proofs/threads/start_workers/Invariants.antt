use Rattle.std.proofs.Common.{◌≡◌, ◌+◌, []}
use Rattle.std.specs.List.{All}
use Rattle.std.specs.Vec.{vec_len}
use Rattle.fuse_workers.specs.Promises.{PromisesFor}
use Rattle.fuse_workers.specs.Starting.{starts}
use Rattle.fuse_workers.specs.Answered.{IsCaller}
use Rattle.fuse_loop.specs.Answering.{answering}
use Rattle.fuse_workers.proofs.threads.start_workers.Given as goal

-- as many were started, and are counted, as were asked for
abbrev pub invariant-loop-flag : goal.invariant-loop-flag
invariant-loop-flag g l =
    (l.caller.jobs.line ≡ l.context.jobs.now) × (l.caller.frames.line ≡ l.context.frames.now)
    × IsCaller (answering (g.W.Work.owed l.context.work.now) g.W.Work.DEFERS) [] l.caller.jobs.hand l.caller.frames.hand
    × All (λ h. PromisesFor l.context.work.now l.context.jobs.now l.context.frames.now h.promise) l.workers.items
    × (l.caller.jobs.hand.others ≡ l.fn.caller.jobs.hand.others + vec_len l.workers)
    × (l.caller.frames.hand.others ≡ l.fn.caller.frames.hand.others + vec_len l.workers)
    × (l.caller.answerer.notifier.line ≡ l.context.frames.now)
    × (vec_len l.workers ≡ l.flag-index)
    × (g.T.Starter.told l.starter ≡ starts ((g.T.Starter.told l.fn.starter).asked + vec_len l.workers) (g.T.Starter.told l.fn.starter).refused)
