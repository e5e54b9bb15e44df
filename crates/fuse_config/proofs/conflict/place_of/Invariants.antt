-- The option is at none of the places looked at.
use Rattle.std.proofs.Common.{◌≢◌, ◌<◌, ℕ, Some}
use Rattle.std.specs.List.{slice_get}
use Rattle.fuse_config.proofs.conflict.place_of.Given as goal

abbrev pub invariant-loop-place : goal.invariant-loop-place
invariant-loop-place l = (i : ℕ) → i < l.place → slice_get l.options i ≢ Some l.option
