-- The views of all passes, as lists: what changes where one view does, one more comes, or two are joined.
use Rattle.std.proofs.Common.{◌≡◌, ◌≢◌, ℕ, zero, suc, ◌+◌, ◌≤◌, List, [], ◌∷◌, ◌++◌, set, flat_map, sym, refl, ap, ◌∙◌, subst}
use Rattle.std.proofs.Common.{⊎_elim, append_assoc, append-nil, arith}
use Rattle.std.specs.List.Sorted.{IsPermutation}
use Rattle.std.proofs.lemmas.List.Sorted.{IsPermutation-trans, IsPermutation-append_right, IsPermutation-append_comm}
use mathlib.Core.Option.{some, some-injective, some-ne-none}
use lib.ListN.{get_elem?}
use Rattle.crossbeam_queue.proofs.Lists.{at_set, at_snoc}
use Rattle.fuse_line.specs.declared.hand.Hand.{Hand}
use Rattle.fuse_line.specs.LineRule.{total}

pub set_apart : {H : Type 0} (views : List H) (i j : ℕ) (v w : H) → i ≢ j → set (set views i v) j w ≡ set (set views j w) i v
set_apart [] i j v w apart = refl
set_apart (x ∷ xs) zero zero v w apart = absurd (apart refl)
set_apart (x ∷ xs) zero (suc j) v w apart = refl
set_apart (x ∷ xs) (suc i) zero v w apart = refl
set_apart (x ∷ xs) (suc i) (suc j) v w apart = ap (λ l. x ∷ l) (set_apart xs i j v w (λ e. apart (ap suc e)))

module _ {H X : Type 0} (f : H → List X) where
  -- one view gains items
  pub flat_grown : (views : List H) (place : ℕ) (v w : H) (more : List X) → get_elem? views place ≡ some v → f w ≡ f v ++ more
      → IsPermutation (flat_map f (set views place w)) (flat_map f views ++ more)
  flat_grown [] place v w more at is = absurd (some-ne-none v (sym at))
  flat_grown (x ∷ xs) zero v w more at is =
      let there : f w ≡ f x ++ more = is ∙ ap (λ u. f u ++ more) (sym (some-injective x v at)) in
      let rest : List X = flat_map f xs in
      subst (λ l. IsPermutation (l ++ rest) ((f x ++ rest) ++ more)) (sym there)
      (rw (append_assoc (f x) more rest, append_assoc (f x) rest more) (IsPermutation-append_right (f x) _ _ (IsPermutation-append_comm more rest)))
  flat_grown (x ∷ xs) (suc n) v w more at is =
      rw (append_assoc (f x) (flat_map f xs) more) (IsPermutation-append_right (f x) _ _ (flat_grown xs n v w more at is))

  -- one view changes, but not in this
  pub flat_kept : (views : List H) (place : ℕ) (v w : H) → get_elem? views place ≡ some v → f w ≡ f v → flat_map f (set views place w) ≡ flat_map f views
  flat_kept [] place v w at is = refl
  flat_kept (x ∷ xs) zero v w at is = ap (λ l. l ++ flat_map f xs) (is ∙ ap f (sym (some-injective x v at)))
  flat_kept (x ∷ xs) (suc n) v w at is = ap (λ l. f x ++ l) (flat_kept xs n v w at is)

  -- a view with nothing comes
  pub flat_more : (views : List H) (w : H) → f w ≡ [] → flat_map f (views ++ w ∷ []) ≡ flat_map f views
  flat_more [] w none = append-nil (f w) ∙ none
  flat_more (x ∷ xs) w none = ap (λ l. f x ++ l) (flat_more xs w none)

  -- one view is emptied
  pub flat_emptied : (views : List H) (place : ℕ) (v w : H) → get_elem? views place ≡ some v → f w ≡ []
      → IsPermutation (flat_map f (set views place w) ++ f v) (flat_map f views)
  flat_emptied [] place v w at none = absurd (some-ne-none v (sym at))
  flat_emptied (x ∷ xs) zero v w at none =
      let rest : List X = flat_map f xs in
      subst (λ u. IsPermutation ((f w ++ rest) ++ f u) (f x ++ rest)) (some-injective x v at)
      (subst (λ l. IsPermutation ((l ++ rest) ++ f x) (f x ++ rest)) (sym none) (IsPermutation-append_comm rest (f x)))
  flat_emptied (x ∷ xs) (suc n) v w at none =
      rw (append_assoc (f x) (flat_map f (set xs n w)) (f v)) (IsPermutation-append_right (f x) _ _ (flat_emptied xs n v w at none))

  -- one view's items go to another
  pub flat_joined : (views : List H) (place other : ℕ) (v w both spent : H) → get_elem? views place ≡ some v → get_elem? views other ≡ some w
      → get_elem? (set views other spent) place ≡ some v → place ≢ other → f both ≡ f v ++ f w → f spent ≡ []
      → IsPermutation (flat_map f (set (set views place both) other spent)) (flat_map f views)
  flat_joined views place other v w both spent at there still apart sum none =
      rw (set_apart views place other both spent apart)
      (IsPermutation-trans _ _ _ (flat_grown (set views other spent) place v both (f w) still sum) (flat_emptied views other w spent there none))

module _ {T : Type 0} where
  pub total_set : (f : Hand T → ℕ) (views : List (Hand T)) (place : ℕ) (v w : Hand T) → get_elem? views place ≡ some v
      → total f (set views place w) + f v ≡ total f views + f w
  total_set f [] place v w at = absurd (some-ne-none v (sym at))
  total_set f (x ∷ xs) zero v w at = omega (arith, ap f (some-injective x v at))
  total_set f (x ∷ xs) (suc n) v w at = omega (arith, total_set f xs n v w at)

  pub total_more : (f : Hand T → ℕ) (views : List (Hand T)) (w : Hand T) → total f (views ++ w ∷ []) ≡ total f views + f w
  total_more f [] w = omega arith
  total_more f (x ∷ xs) w = omega (arith, total_more f xs w)

  pub total_at : (f : Hand T → ℕ) (views : List (Hand T)) (place : ℕ) (v : Hand T) → get_elem? views place ≡ some v → f v ≤ total f views
  total_at f [] place v at = absurd (some-ne-none v (sym at))
  total_at f (x ∷ xs) zero v at = omega (arith, ap f (some-injective x v at))
  total_at f (x ∷ xs) (suc n) v at = omega (arith, total_at f xs n v at)

  abbrev pub Each : (Hand T → Type 0) → List (Hand T) → Type 0
  Each P views = (place : ℕ) (v : Hand T) → get_elem? views place ≡ some v → P v

  pub each_set : (P : Hand T → Type 0) (views : List (Hand T)) (place : ℕ) (w : Hand T) → P w → Each P views → Each P (set views place w)
  each_set P views place w mine others j u at = ⊎_elim (λ x. subst P x.1 mine) (λ x. others j u x.1) (at_set views place j w u at)

  pub each_more : (P : Hand T → Type 0) (views : List (Hand T)) (w : Hand T) → P w → Each P views → Each P (views ++ w ∷ [])
  each_more P views w mine others j u at = ⊎_elim (λ x. others j u x) (λ x. subst P x mine) (at_snoc views w u j at)
