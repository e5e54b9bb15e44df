use Rattle.std.proofs.Common.{◌≡◌, ℕ, List, length}
use Rattle.fuse_workers.specs.Hearing.{HearsOn}
use Rattle.fuse_core.specs.OnePerMessage.{number_of}
use Rattle.fuse_workers.specs.Answered.{IsCaller}
use Rattle.fuse_loop.specs.Answering.{answering}
use Rattle.fuse_workers.proofs.caller.take_messages.Given as goal

-- these requests were taken and handed in so far
abbrev pub invariant-loop : goal.invariant-loop
invariant-loop g l =
    (l.caller.jobs.line ≡ l.context.jobs.now) × (l.caller.frames.line ≡ l.context.frames.now)
    × (l.caller.jobs.hand.others ≡ l.fn.caller.jobs.hand.others) × (l.caller.frames.hand.others ≡ l.fn.caller.frames.hand.others)
    × (ms : List (List ℕ)) × (number_of (length ms) ≡ l.seq) × HearsOn ms l.fn.intake l.intake
    × IsCaller (answering (g.W.Work.owed l.context.work.now) g.W.Work.DEFERS) ms l.caller.jobs.hand l.caller.frames.hand
    × (l.caller.answerer.notifier.line ≡ l.context.frames.now)
    × (l.caller.jobs.hand.others ≡ 0 → l.caller.jobs.hand ≡ l.fn.caller.jobs.hand)
