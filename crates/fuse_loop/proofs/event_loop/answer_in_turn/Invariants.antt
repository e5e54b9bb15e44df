use Rattle.std.proofs.Common.{◌≡◌, IfNone, length}
use Rattle.fuse_loop.specs.EventLoop.{RunOn}
use Rattle.fuse_loop.specs.Lines.{notices_in}
use Rattle.fuse_core.specs.OnePerMessage.{number_of}
use Rattle.fuse_loop.specs.Progress.{beside}
use Rattle.fuse_loop.proofs.event_loop.answer_in_turn.Given as goal

-- a run so far, after which it goes on with the next number; and before it is the first, or the line was found empty
abbrev pub invariant-loop : goal.invariant-loop
invariant-loop g l =
    (so_far : RunOn (g.W.Work.owed l.work) 0 (beside l.fn.channel.progress (notices_in l.fn.frames.hand.taken))
    (beside l.channel.progress (notices_in l.frames.hand.taken)))
    × (number_of (length so_far.turns) ≡ l.seq)
    × (l.frames.line ≡ l.fn.frames.line) × (l.notifier.line ≡ l.fn.notifier.line)
    × IfNone l.found (l.seq ≡ 0)
