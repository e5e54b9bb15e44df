-- A filter of a permutation.
use Rattle.std.proofs.Common.{ℕ, zero, suc, ◌<◌, Bool, true, false, cond, List, [], ◌∷◌, length, get_or, set, filter, swap, arith}
use Rattle.std.specs.List.Sorted.{IsPermutation}
use Rattle.std.proofs.lemmas.List.Sorted.{IsPermutation-refl, IsPermutation-cons, IsPermutation-trans, IsPermutation-middle, IsPermutation-keeps}

-- A relation holds along each permutation if it is reflexive and transitive, and goes under a head and over two heads exchanged.
module _ {X : Type 0} (R : List X → List X → Type 0) (same : (xs : List X) → R xs xs)
    (skip : (x : X) (xs ys : List X) → R xs ys → R (x ∷ xs) (x ∷ ys))
    (turn : (x y : X) (xs : List X) → R (x ∷ y ∷ xs) (y ∷ x ∷ xs))
    (chain : (xs ys zs : List X) → R xs ys → R ys zs → R xs zs) where
  to_head : (l : List X) (j : ℕ) (x d : X) → j < length l → R (x ∷ l) (get_or l j d ∷ set l j x)
  to_head [] j x d h = absurd (omega arith)
  to_head (y ∷ l) zero x d h = turn x y l
  to_head (y ∷ l) (suc j) x d h =
      chain _ _ _ (turn x y l) (chain _ _ _ (skip y _ _ (to_head l j x d (omega arith))) (turn y (get_or l j d) (set l j x)))

  exchanged : (l : List X) (i j : ℕ) (d : X) → i < length l → j < length l → R l (set (set l i (get_or l j d)) j (get_or l i d))
  exchanged [] i j d h k = absurd (omega arith)
  exchanged (x ∷ l) zero zero d h k = same (x ∷ l)
  exchanged (x ∷ l) zero (suc j) d h k = to_head l j x d (omega arith)
  exchanged (x ∷ l) (suc i) zero d h k = to_head l i x d (omega arith)
  exchanged (x ∷ l) (suc i) (suc j) d h k = skip x _ _ (exchanged l i j d (omega arith) (omega arith))

  swapped : (l : List X) (i j : ℕ) → i < length l → j < length l → R l (swap l i j)
  swapped [] i j h k = same []
  swapped (x ∷ l) i j h k = exchanged (x ∷ l) i j x h k

  pub along_order : (xs ys : List X) → IsPermutation xs ys → R xs ys
  along_order xs = IsPermutation-keeps xs (R xs) (same xs) (λ l i j h k so_far. chain xs l _ so_far (swapped l i j h k))

module _ {T : Type 0} (p : T → Bool) where
  passed_head : (b : Bool) (x : T) (us vs : List T) → IsPermutation us vs → IsPermutation (cond b (x ∷ us) us) (cond b (x ∷ vs) vs)
  passed_head true x us vs h = IsPermutation-cons x us vs h
  passed_head false x us vs h = h

  passed_turn : (b c : Bool) (x y : T) (us : List T)
      → IsPermutation (cond b (x ∷ cond c (y ∷ us) us) (cond c (y ∷ us) us)) (cond c (y ∷ cond b (x ∷ us) us) (cond b (x ∷ us) us))
  passed_turn true true x y us = IsPermutation-middle (x ∷ []) y us
  passed_turn true false x y us = IsPermutation-refl _
  passed_turn false true x y us = IsPermutation-refl _
  passed_turn false false x y us = IsPermutation-refl _

  pub filtered_order : (xs ys : List T) → IsPermutation xs ys → IsPermutation (filter p xs) (filter p ys)
  filtered_order = along_order (λ xs ys. IsPermutation (filter p xs) (filter p ys))
      (λ xs. IsPermutation-refl _)
      (λ x xs ys h. passed_head (p x) x _ _ h)
      (λ x y xs. passed_turn (p x) (p y) x y (filter p xs))
      (λ xs ys zs. IsPermutation-trans _ _ _)
