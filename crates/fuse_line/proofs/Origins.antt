-- Where an item that a pass took comes from.
use Rattle.std.proofs.Common.{◌≡◌, ℕ, zero, suc, Bool, List, [], ◌∷◌, ◌++◌, flat_map, sym, refl, subst, ⊎_elim, arith}
use Rattle.std.specs.List.{Contains}
use Rattle.std.proofs.lemmas.List.Elements.{Contains-append_left, Contains-append_right, Contains-append_cases}
use Rattle.std.proofs.lemmas.List.Sorted.{IsPermutation-sym, Contains-permutation}
use mathlib.Core.Option.{some, some-injective, some-ne-none}
use lib.ListN.{get_elem?}
use Rattle.fuse_line.specs.Laws.{EachTakenWasPushed}
use Rattle.fuse_line.specs.LineRule.{puts, takens}

module _ {H X : Type 0} (f : H → List X) (x : X) where
  -- what one has, all have
  among_all : (views : List H) (place : ℕ) (v : H) → get_elem? views place ≡ some v → Contains (f v) x → Contains (flat_map f views) x
  among_all [] place v at has = absurd (some-ne-none v (sym at))
  among_all (u ∷ us) zero v at has =
      Contains-append_left (f u) (flat_map f us) x (subst (λ w. Contains (f w) x) (sym (some-injective u v at)) has)
  among_all (u ∷ us) (suc n) v at has = Contains-append_right (f u) (flat_map f us) x (among_all us n v at has)

  -- what all have, one has
  from_one : (views : List H) → Contains (flat_map f views) x → (place : ℕ) × (v : H) × (get_elem? views place ≡ some v) × Contains (f v) x
  from_one [] has = let below = has.1 in absurd (omega arith)
  from_one (u ∷ us) has = ⊎_elim
      (λ here. (0, u, refl, here))
      (λ there. let found = from_one us there in (suc found.0, found.1, found.2, found.3))
      (Contains-append_cases (f u) (flat_map f us) x has)

pub taken_was_pushed : {T : Type 0} (inner : T → Bool) → EachTakenWasPushed inner
taken_was_pushed inner items views taker hand item rule at took =
    let all = Contains-append_left (takens views) items item (among_all (λ v. v.taken) item views taker hand at took) in
    from_one (λ v. v.put) item views (Contains-permutation (takens views ++ items) (puts views) item (IsPermutation-sym _ _ rule.moved) all)
