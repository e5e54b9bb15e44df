-- An option has its contrary behind it, or is no first of a conflict.
use Rattle.std.proofs.Common.{◌≡◌, ◌<◌, ◌≤◌, ◌+◌, ◌-◌, ℕ, length, refl, subst, List, take, drop, arith}
use Rattle.std.proofs.lemmas.Grind.{common_steps}
use Rattle.std.proofs.lemmas.Option.{slice_get_read, slice_get_within}
use Rattle.fuse_config.specs.declared.mount_option.MountOption.{MountOption}
use Rattle.fuse_config.specs.Conflicts.{ConflictAt, FirstConflict, FirstContrary, NoContrary}
use Rattle.fuse_config.proofs.ConflictLaws.{FirstConflict-found, NoConflict-next}
use Rattle.fuse_config.proofs.conflict.check_option_conflicts.Goals as goal

-- the options behind a place
behind : (options : List MountOption) (first : ℕ) → take (length options - (first + 1)) (drop (first + 1) options) ≡ drop (first + 1) options
behind options first = grind (arith, common_steps)

pub returns-in-Some : goal.returns-in-Some
returns-in-Some c =
    let options = c.as_slice-options.result.now in
    let first = c.loop-first.first in
    subst (λ (os : List MountOption). FirstConflict os first (first + 1 + c.in-Some.later)) c.as_slice-options.ensures
    (FirstConflict-found options first c.in-Some.later c.index-options-first.result
    (slice_get_read options (length options) first c.index-options-first.result refl c.loop-first-test.true c.index-options-first.is)
    (subst (λ (os : List MountOption). FirstContrary c.index-options-first.result os c.in-Some.later) (behind options first) c.in-Some.ensures)
    c.loop-first.invariant)

pub loop-first-preserved : goal.loop-first-preserved
loop-first-preserved c =
    let options = c.as_slice-options.result.now in
    let first = c.loop-first.first in
    NoConflict-next options first c.index-options-first.result
    (slice_get_read options (length options) first c.index-options-first.result refl c.loop-first-test.true c.index-options-first.is)
    (subst (NoContrary c.index-options-first.result) (behind options first) c.in_default.ensures) c.loop-first.invariant

pub returns : goal.returns
returns c =
    subst (λ (os : List MountOption). (i j : ℕ) → ¬ (ConflictAt os i j)) c.as_slice-options.ensures
    (λ i j at. c.loop-first.invariant i j (before i j c.loop-first.first at c.loop-first-test.false) at)
  where
    before : (i j end : ℕ) → ConflictAt c.as_slice-options.result.now i j → length c.as_slice-options.result.now ≤ end → i < end
    before i j end at past =
        let within : i < length c.as_slice-options.result.now = slice_get_within c.as_slice-options.result.now i at.option at.at_first in
        omega (arith, within, past)
