-- Conflicts by places: one that was found behind an option, and none.
use Rattle.std.proofs.Common.{◌≡◌, ◌∙◌, ◌+◌, ◌-◌, ◌<◌, ◌≤◌, ◌⊎◌, ℕ, zero, suc, List, [], ◌∷◌, Some, drop, refl, sym, ap, subst, inl, inr, arith}
use Rattle.std.specs.List.{slice_get}
use Rattle.fuse_config.specs.declared.mount_option.MountOption.{MountOption}
use Rattle.fuse_config.specs.Options.{conflict_of}
use Rattle.fuse_config.specs.Conflicts.{ConflictAt, FirstConflict, FirstContrary, NoContrary}

-- what stands at a place behind the first ones
slice_get-drop : (front : ℕ) (options : List MountOption) (i : ℕ) → slice_get (drop front options) i ≡ slice_get options (front + i)
slice_get-drop zero options i = ap (slice_get options) (omega arith)
slice_get-drop (suc front) [] i = refl
slice_get-drop (suc front) (option ∷ options) i =
    let next : suc front + i ≡ suc (front + i) = omega arith in
    slice_get-drop front options i ∙ sym (ap (slice_get (option ∷ options)) next)

-- what stands at a later place, counted from behind the first one
later_at : (options : List MountOption) (first second : ℕ) (option : MountOption) → first < second →
    slice_get options second ≡ Some option → slice_get (drop (first + 1) options) (second - (first + 1)) ≡ Some option
later_at options first second option behind at =
    let place : first + 1 + (second - (first + 1)) ≡ second = omega arith in
    slice_get-drop (first + 1) options (second - (first + 1)) ∙ (ap (slice_get options) place ∙ at)

-- the two options of a conflict at a place whose option is known
contrary_there : (options : List MountOption) (first second : ℕ) (option : MountOption) → slice_get options first ≡ Some option →
    (at : ConflictAt options first second) → conflict_of option ≡ Some at.contrary
contrary_there options first second option here at =
    let same : option ≡ at.option = cc (here, at.at_first) in ap conflict_of same ∙ at.contraries

-- the first option that has its contrary behind it, and the first place of that one
pub FirstConflict-found : (options : List MountOption) (first later : ℕ) (option : MountOption) → slice_get options first ≡ Some option →
    FirstContrary option (drop (first + 1) options) later → ((i j : ℕ) → i < first → ¬ (ConflictAt options i j)) →
    FirstConflict options first (first + 1 + later)
FirstConflict-found options first later option here found none_before = record {
  conflict = record {
    option = option;
    contrary = found.0;
    at_first = here;
    at_second = sym (slice_get-drop (first + 1) options later) ∙ found.2.here;
    contraries = found.1;
    behind = omega arith;
  };
  least_first = λ i j at. lt_or i first (λ before. none_before i j before at);
  least_second = λ j at.
      let same : Some at.contrary ≡ Some found.0 = sym (contrary_there options first j option here at) ∙ found.1 in
      let there : slice_get (drop (first + 1) options) (j - (first + 1)) ≡ Some found.0 =
      later_at options first j at.contrary at.behind at.at_second ∙ same in
      let most : later ≤ j - (first + 1) = found.2.least (j - (first + 1)) there in
      let behind : first < j = at.behind in
      omega (arith, most, behind);
}
  where
    lt_or : (i first : ℕ) → ¬ (i < first) → first ≤ i
    lt_or i first not_before = omega (arith, not_before)

-- an option without its contrary behind it is no first of a conflict
pub NoConflict-next : (options : List MountOption) (first : ℕ) (option : MountOption) → slice_get options first ≡ Some option →
    NoContrary option (drop (first + 1) options) → ((i j : ℕ) → i < first → ¬ (ConflictAt options i j)) →
    (i j : ℕ) → i < first + 1 → ¬ (ConflictAt options i j)
NoConflict-next options first option here none none_before i j before at =
    elim (split i first before) [
      | inl earlier ↦ none_before i j earlier at
      | inr same ↦
          let at' : ConflictAt options first j = subst (λ (k : ℕ). ConflictAt options k j) same at in
          none at'.contrary (contrary_there options first j option here at') (j - (first + 1))
          (later_at options first j at'.contrary at'.behind at'.at_second)
    ]
  where
    split : (i first : ℕ) → i < first + 1 → (i < first) ⊎ (i ≡ first)
    split i first h = grind arith

-- one conflict alone is named
pub FirstConflict-once : (options : List MountOption) (i j k l : ℕ) → FirstConflict options i j → FirstConflict options k l →
    (i ≡ k) × (j ≡ l)
FirstConflict-once options i j k l x y =
    let first : i ≡ k = both (x.least_first k l y.conflict) (y.least_first i j x.conflict) in
    let second : j ≡ l =
    both (x.least_second l (subst (λ (m : ℕ). ConflictAt options m l) (sym first) y.conflict))
    (y.least_second j (subst (λ (m : ℕ). ConflictAt options m j) first x.conflict)) in
    (first, second)
  where
    both : {m n : ℕ} → m ≤ n → n ≤ m → m ≡ n
    both {m} {n} below above = omega (arith, below, above)
