-- An item at some place of a list: where it is in each permutation, and the list without it.
use Rattle.std.proofs.Common.{◌≡◌, ℕ, suc, List, [], ◌∷◌, ◌++◌, length, Some, slice_get, remove, sym, refl, ap, ◌∙◌, subst}
use Rattle.std.specs.List.Sorted.{IsPermutation}
use Rattle.std.proofs.lemmas.List.Sorted.{IsPermutation-refl, IsPermutation-cons, IsPermutation-trans, IsPermutation-middle}
use Rattle.fuse_line.proofs.FilteredOrder.{along_order}

module _ {X : Type 0} where
  -- each place of the one list has a place of the other with the same item, and the rest is permuted
  abbrev pub Found : List X → List X → Type 0
  Found xs ys =
      (b : List X) (x : X) (a : List X) → xs ≡ b ++ x ∷ a → (b' : List X) × (a' : List X) × (ys ≡ b' ++ x ∷ a') × IsPermutation (b ++ a) (b' ++ a')

  abbrev Both : List X → List X → Type 0
  Both xs ys = IsPermutation xs ys × Found xs ys

  found_under : (z : X) (xs ys : List X) → Both xs ys → Found (z ∷ xs) (z ∷ ys)
  found_under z xs ys h [] x a is =
      let head : z ≡ x = cc in
      let tail : xs ≡ a = cc in ([], ys, ap (λ t. t ∷ ys) head, subst (λ l. IsPermutation l ys) tail h.0)
  found_under z xs ys h (w ∷ b) x a is =
      let head : z ≡ w = cc in
      let tail : xs ≡ b ++ x ∷ a = cc in
      let f = h.1 b x a tail in (
        z ∷ f.0,
        f.1,
        ap (λ l. z ∷ l) f.2,
        subst (λ t. IsPermutation (t ∷ (b ++ a)) (z ∷ (f.0 ++ f.1))) head (IsPermutation-cons z _ _ f.3),
      )

  found_turned : (y z : X) (us : List X) → Found (y ∷ z ∷ us) (z ∷ y ∷ us)
  found_turned y z us [] x a is =
      let head : y ≡ x = cc in
      let tail : z ∷ us ≡ a = cc in
      (z ∷ [], us, ap (λ t. z ∷ t ∷ us) head, subst (λ l. IsPermutation l (z ∷ us)) tail (IsPermutation-refl (z ∷ us)))
  found_turned y z us (w ∷ []) x a is =
      let first : y ≡ w = cc in
      let second : z ≡ x = cc in
      let tail : us ≡ a = cc in
      let rest : y ∷ us ≡ w ∷ a = cc in
      ([], y ∷ us, ap (λ t. t ∷ y ∷ us) second, subst (λ l. IsPermutation l (y ∷ us)) rest (IsPermutation-refl (y ∷ us)))
  found_turned y z us (w ∷ v ∷ b) x a is =
      let first : y ≡ w = cc in
      let second : z ≡ v = cc in
      let tail : us ≡ b ++ x ∷ a = cc in
      let turned : IsPermutation (y ∷ z ∷ (b ++ a)) (z ∷ y ∷ (b ++ a)) = IsPermutation-middle (y ∷ []) z (b ++ a) in (
        z ∷ y ∷ b,
        a,
        ap (λ l. z ∷ y ∷ l) tail,
        subst (λ (t : X × X). IsPermutation (t.0 ∷ t.1 ∷ (b ++ a)) (z ∷ y ∷ (b ++ a))) (λ i. (first i, second i)) turned,
      )

  pub found : (xs ys : List X) → IsPermutation xs ys → Found xs ys
  found xs ys p = (both xs ys p).1 where
    both : (xs ys : List X) → IsPermutation xs ys → Both xs ys
    both = along_order Both
        (λ xs. (IsPermutation-refl xs, λ b x a is. (b, a, is, IsPermutation-refl _)))
        (λ x xs ys h. (IsPermutation-cons x xs ys h.0, found_under x xs ys h))
        (λ x y xs. (IsPermutation-middle (x ∷ []) y xs, found_turned x y xs))
        (λ xs ys zs p q. (
          IsPermutation-trans xs ys zs p.0 q.0,
          λ b x a is.
              let f = p.1 b x a is in
              let g = q.1 f.0 x f.1 f.2 in (g.0, g.1, g.2, IsPermutation-trans _ _ _ f.3 g.3),
        ))

  -- the last list is the first without the item at some place
  abbrev pub Without : List X → X → List X → Type 0
  Without xs x rest = (b : List X) × (a : List X) × (xs ≡ b ++ x ∷ a) × (rest ≡ b ++ a)

  pub Without-first : (xs : List X) (x : X) (rest : List X) → xs ≡ x ∷ rest → Without xs x rest
  Without-first xs x rest is = ([], rest, is, refl)

  pub Without-under : (z : X) (xs : List X) (x : X) (rest : List X) → Without xs x rest → Without (z ∷ xs) x (z ∷ rest)
  Without-under z xs x rest w = (z ∷ w.0, w.1, ap (λ l. z ∷ l) w.2, ap (λ l. z ∷ l) w.3)

  pub Without-length : (xs : List X) (x : X) (rest : List X) → Without xs x rest → length xs ≡ suc (length rest)
  Without-length xs x rest w = ap length w.2 ∙ lengths w.0 ∙ ap (λ l. suc (length l)) (sym w.3) where
    lengths : (b : List X) → length (b ++ x ∷ w.1) ≡ suc (length (b ++ w.1))
    lengths [] = refl
    lengths (z ∷ b) = ap suc (lengths b)

  get_there : (b : List X) (x : X) (a : List X) → slice_get (b ++ x ∷ a) (length b) ≡ Some x
  get_there [] x a = refl
  get_there (z ∷ b) x a = get_there b x a

  remove_there : (b : List X) (x : X) (a : List X) → remove (b ++ x ∷ a) (length b) ≡ b ++ a
  remove_there [] x a = refl
  remove_there (z ∷ b) x a = ap (λ l. z ∷ l) (remove_there b x a)

  -- the same by the number of the place
  pub Without-at : (xs : List X) (x : X) (rest : List X) → Without xs x rest → (i : ℕ) × (slice_get xs i ≡ Some x) × (rest ≡ remove xs i)
  Without-at xs x rest w = (
    length w.0,
    subst (λ l. slice_get l (length w.0) ≡ Some x) (sym w.2) (get_there w.0 x w.1),
    w.3 ∙ sym (remove_there w.0 x w.1) ∙ ap (λ l. remove l (length w.0)) (sym w.2),
  )
