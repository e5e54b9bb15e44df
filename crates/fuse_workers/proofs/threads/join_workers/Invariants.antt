use Rattle.std.proofs.Common.{◌≡◌, ◌+◌, ◌<◌, ℕ, List, get_or}
use Rattle.std.specs.Vec.Iter.{into_iter_items, into_iter_len}
use Rattle.fuse_line.specs.declared.hand.Kind.TheVariants.{First}
use Rattle.fuse_workers.specs.Promises.{PromisesFor}
use Rattle.fuse_workers.specs.Answered.{IsCaller}
use Rattle.fuse_loop.specs.Answering.{answering}
use Rattle.fuse_workers.proofs.threads.join_workers.Given as goal

-- as many are counted as are left to join
abbrev pub invariant-loop-worker : goal.invariant-loop-worker
invariant-loop-worker g l =
    (l.caller.jobs.line ≡ l.context.jobs.now) × (l.caller.frames.line ≡ l.context.frames.now)
    × (l.caller.jobs.hand.kind ≡ First) × (l.caller.frames.hand.kind ≡ First)
    × (l.caller.jobs.hand.others ≡ into_iter_len l.worker-iterator) × (l.caller.frames.hand.others ≡ 1 + into_iter_len l.worker-iterator)
    × ((k : ℕ) (d : _) → k < into_iter_len l.worker-iterator
    → PromisesFor l.context.work.now l.context.jobs.now l.context.frames.now (get_or (into_iter_items l.worker-iterator) k d).promise)
    × ((ms : List (List ℕ)) → IsCaller (answering (g.W.Work.owed l.context.work.now) g.W.Work.DEFERS) ms l.fn.caller.jobs.hand l.fn.caller.frames.hand
    → IsCaller (answering (g.W.Work.owed l.context.work.now) g.W.Work.DEFERS) ms l.caller.jobs.hand l.caller.frames.hand)
    × (l.caller.answerer.notifier.line ≡ l.context.frames.now)
