use Rattle.std.proofs.Common.{◌≡◌, ℕ, List}
use Rattle.fuse_line.specs.declared.hand.Kind.TheVariants.{First}
use Rattle.fuse_workers.specs.Answered.{IsCaller}
use Rattle.fuse_loop.specs.Answering.{answering}
use Rattle.fuse_workers.proofs.caller.answer_rest.Given as goal

-- each job taken so far was answered
abbrev pub invariant-loop : goal.invariant-loop
invariant-loop g l =
    (l.caller.jobs.line ≡ l.context.jobs.now) × (l.caller.frames.line ≡ l.context.frames.now)
    × (l.caller.jobs.hand.kind ≡ First) × (l.caller.frames.hand.kind ≡ First)
    × (l.caller.jobs.hand.others ≡ l.fn.caller.jobs.hand.others) × (l.caller.frames.hand.others ≡ l.fn.caller.frames.hand.others)
    × ((ms : List (List ℕ)) → IsCaller (answering (g.W.Work.owed l.context.work.now) g.W.Work.DEFERS) ms l.fn.caller.jobs.hand l.fn.caller.frames.hand
    → IsCaller (answering (g.W.Work.owed l.context.work.now) g.W.Work.DEFERS) ms l.caller.jobs.hand l.caller.frames.hand)
    × (l.caller.answerer.notifier.line ≡ l.context.frames.now)
