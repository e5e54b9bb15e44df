-- What the first pass learns of the line while it counts no other.
use Rattle.std.proofs.Common.{◌≡◌, ℕ, zero, suc, Bool, List, [], ◌∷◌, ◌++◌, Option, None, Some, IfNone, MatchOption}
use Rattle.std.proofs.Common.{length, set, filter, cond, sym, refl, ap, ◌∙◌, subst, append-nil, arith}
use Rattle.std.specs.List.Sorted.{IsPermutation}
use Rattle.std.proofs.lemmas.List.Elements.{filter-append}
use mathlib.Core.Option.{some, some-injective, some-ne-none}
use lib.ListN.{get_elem?}
use Rattle.atomic_table.proofs.Lists.{set_else}
use Rattle.std.proofs.lemmas.List.Sorted.{sum_by-IsPermutation}
use Rattle.crossbeam_queue.specs.Fifo.{Learns, Held}
use Rattle.fuse_line.specs.declared.hand.Hand.{Hand}
use Rattle.fuse_line.specs.declared.hand.Kind.{Kind}
use Rattle.fuse_line.specs.declared.hand.Kind.TheVariants.{First, Inner, Door, Spent}
use Rattle.fuse_line.specs.Hand.{hand, inner_of}
use Rattle.fuse_line.specs.Laws.{OthersAreIdle, TookAsOftenAsPushed}
use Rattle.fuse_line.specs.LineRule.{first_of, total, puts, takens, SoundAs, IsSound, LineRule}
use Rattle.fuse_line.specs.Tells.{IsSettled, Tells}
use Rattle.fuse_line.proofs.FilteredOrder.{filtered_order}
use Rattle.fuse_line.proofs.Views.{Each, total_at, total_set}

module _ {T : Type 0} (inner : T → Bool) where
  -- what is not the first counts no other
  counts_none : (kind : Kind) (others : ℕ) (put taken : List T) → first_of kind ≡ 0 → SoundAs inner kind others put taken → others ≡ 0
  counts_none First others put taken first s = absurd (omega arith)
  counts_none Inner others put taken first s = s
  counts_none Door others put taken first s = s.0
  counts_none Spent others put taken first s = s.0

  -- what is neither the first nor an inner pass pushed no inner item and took nothing
  idle_as : (kind : Kind) (others : ℕ) (put taken : List T) → first_of kind ≡ 0 → inner_of kind ≡ 0 → SoundAs inner kind others put taken
      → (filter inner put ≡ []) × (taken ≡ [])
  idle_as First others put taken first counts s = absurd (omega arith)
  idle_as Inner others put taken first counts s = absurd (omega arith)
  idle_as Door others put taken first counts s = (s.1, s.2)
  idle_as Spent others put taken first counts s = (ap (filter inner) s.1, s.2)

  -- what all passes count, pushed of the inner items, and took, where none of them is an inner pass
  abbrev Gathered : List (Hand T) → ℕ → List T → List T → Type 0
  Gathered views others put taken = (total (λ u. u.others) views ≡ others)
      × (total (λ u. inner_of u.kind) views ≡ 0 → (filter inner (puts views) ≡ filter inner put) × (takens views ≡ taken))

  gathered_more : (v : Hand T) (vs : List (Hand T)) (others : ℕ) (put taken : List T) → IsSound inner v → first_of v.kind ≡ 0
      → Gathered vs others put taken → Gathered (v ∷ vs) others put taken
  gathered_more v vs others put taken s first rest =
      let none = counts_none v.kind v.others v.put v.taken first s in (
        omega (arith, none, rest.0),
        λ h.
            let mine = idle_as v.kind v.others v.put v.taken first (omega (arith, h)) s in
            let theirs = rest.1 (omega (arith, h)) in (
              filter-append inner v.put (puts vs) ∙ ap (λ l. l ++ filter inner (puts vs)) mine.0 ∙ theirs.0,
              ap (λ l. l ++ takens vs) mine.1 ∙ theirs.1,
            ),
      )

  quiet : (views : List (Hand T)) → Each (IsSound inner) views → total (λ u. first_of u.kind) views ≡ 0 → Gathered views 0 [] []
  quiet [] s none = (refl, λ _. (refl, refl))
  quiet (v ∷ vs) s none = gathered_more v vs 0 [] [] (s 0 v refl) (omega arith) (quiet vs (λ j u at. s (suc j) u at) (omega arith))

  -- where the first pass is alone, it pushed each inner item and took each item
  alone : (views : List (Hand T)) (place : ℕ) (v : Hand T) → get_elem? views place ≡ some v → first_of v.kind ≡ 1 → Each (IsSound inner) views
      → total (λ u. first_of u.kind) views ≡ 1 → Gathered views v.others v.put v.taken
  alone [] place v at is s one = absurd (some-ne-none v (sym at))
  alone (x ∷ xs) zero v at is s one =
      let same = some-injective x v at in
      let rest = quiet xs (λ j u at. s (suc j) u at) (omega (arith, ap (λ (u : Hand T). first_of u.kind) same)) in
      subst (λ (u : Hand T). Gathered (x ∷ xs) u.others u.put u.taken) same (
        omega (arith, rest.0),
        λ h. let theirs = rest.1 (omega (arith, h)) in (
          filter-append inner x.put (puts xs) ∙ ap (λ l. filter inner x.put ++ l) theirs.0 ∙ append-nil (filter inner x.put),
          ap (λ l. x.taken ++ l) theirs.1 ∙ append-nil x.taken,
        ),
      )
  alone (x ∷ xs) (suc n) v at is s one =
      let there = total_at (λ u. first_of u.kind) xs n v at in
      gathered_more x xs v.others v.put v.taken (s 0 x refl) (omega arith) (alone xs n v at is (λ j u at. s (suc j) u at) (omega arith))

  pub tells : (place : ℕ) (v : Hand T) → Learns (LineRule inner) place v (Tells inner v)
  tells place v items views rule at first none =
      let a = alone views place v at (ap first_of first) rule.sound rule.one in
      let counted = rule.counted in
      let b = a.1 (omega (arith, a.0)) in
      subst (λ (l : List T × List T). IsPermutation l.0 (filter inner (l.1 ++ items))) (λ i. (b.0 i, b.1 i)) (filtered_order inner _ _ rule.moved)

  empty : (items : List T) → length items ≡ 0 → items ≡ []
  empty [] none = refl
  empty (x ∷ xs) none = absurd (omega arith)

  -- of an empty line
  settles : (v : Hand T) → Held 0 (Tells inner v) → IsSettled inner v
  settles v held first none =
      let all : v.taken ++ held.0 ≡ v.taken = ap (λ l. v.taken ++ l) (empty held.0 held.1) ∙ append-nil v.taken in
      subst (λ l. IsPermutation (filter inner v.put) (filter inner l)) all (held.2 first none)

  -- so is one that found nothing there, and knows what it knew
  pub settled_where_none : (v w : Hand T) (S : T → Type 0) (popped : Option T)
      → MatchOption popped ((v ≡ w) × Held 0 (Tells inner w)) S → IfNone popped (IsSettled inner v)
  settled_where_none v w S None rule = subst (IsSettled inner) (sym rule.0) (settles w rule.1)
  settled_where_none v w S (Some item) rule = tt

  pub idle : OthersAreIdle inner
  idle items views place other v u rule at first none there apart =
      let a = alone views place v at (ap first_of first) rule.sound rule.one in
      let counted = rule.counted in
      let one = rule.one in
      let spent : Hand T = hand Spent 0 [] [] in
      let without : List (Hand T) = set views other spent in
      let mine = total_at (λ w. first_of w.kind) without place v (set_else views other place spent (λ e. apart (sym e)) ∙ at) in
      let theirs = total_set (λ w. first_of w.kind) views other u spent there in
      let inners = total_at (λ w. inner_of w.kind) views other u there in
      idle_as u.kind u.others u.put u.taken (omega (arith, ap first_of first)) (omega (arith, a.0)) (rule.sound other u there)

  pub as_often : TookAsOftenAsPushed inner
  as_often v settled first none test = sum_by-IsPermutation (λ x. cond (test x) 1 0) _ _ (settled first none)
