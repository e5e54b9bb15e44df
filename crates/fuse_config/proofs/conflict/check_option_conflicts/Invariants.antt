-- No option looked at conflicts with a later one.
use Rattle.std.proofs.Common.{◌<◌, ℕ}
use Rattle.fuse_config.specs.Conflicts.{ConflictAt}
use Rattle.fuse_config.proofs.conflict.check_option_conflicts.Given as goal

abbrev pub invariant-loop-first : goal.invariant-loop-first
invariant-loop-first l = (i j : ℕ) → i < l.first → ¬ (ConflictAt l.options i j)
