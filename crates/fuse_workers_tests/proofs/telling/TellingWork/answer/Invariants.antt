use Rattle.std.proofs.Common.{◌≡◌}
use Rattle.fuse_workers_tests.proofs.telling.TellingWork.answer.Given as goal

-- the notifier stays one to its line
abbrev pub invariant-loop-number : goal.invariant-loop-number
invariant-loop-number g l = l.notifier.line ≡ l.fn.notifier.line
