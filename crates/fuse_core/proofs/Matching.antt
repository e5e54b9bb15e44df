-- That late frames go to different marks just where of no tag there are more of them.
use Rattle.std.proofs.Common.{◌≡◌, ◌≤◌, ◌<◌, ◌⊎◌, ◌+◌, ℕ, suc, Bool, true, false, cond, List, [], ◌∷◌, Some, slice_get, remove}
use Rattle.std.proofs.Common.{refl, ap, subst, ⊎_elim, inl, inr, arith}
use Rattle.std.proofs.lemmas.Bool.Decides.{nat_tests}
use Rattle.std.proofs.lemmas.List.Sums.{sum_by-cons, sum_by-remove}
use Rattle.std.proofs.lemmas.Option.{get_or_from_slice_get, slice_get_within}
use Rattle.fuse_core.specs.AreMatched.{AreMatched, Tag, same, times}

pub same_self : (tag : Tag) → same tag tag ≡ true
same_self tag = grind (arith, nat_tests)

pub same_is : (a b : Tag) → same a b ≡ true → a ≡ b
same_is a b h =
    let seq : a.0 ≡ b.0 = grind (arith, nat_tests) in
    let id : a.1 ≡ b.1 = grind (arith, nat_tests) in λ i. (seq i, id i)

is_true_or_false : (b : Bool) → (b ≡ true) ⊎ (b ≡ false)
is_true_or_false true = inl refl
is_true_or_false false = inr refl

-- one where the two tags are one, and else nothing
abbrev pub once_if_same : (a b : Tag) → ℕ
once_if_same a b = cond (same a b) 1 0

pub times-cons : (tag first : Tag) (tags : List Tag) → times tag (first ∷ tags) ≡ once_if_same first tag + times tag tags
times-cons tag first tags = sum_by-cons (λ t. once_if_same t tag) first tags

-- a tag that is there has a place
found : (tag : Tag) (marks : List Tag) → 0 < times tag marks → (i : ℕ) × (slice_get marks i ≡ Some tag)
found tag [] h = absurd (omega arith)
found tag (first ∷ marks) h = ⊎_elim
    (λ e. (0, ap Some (same_is first tag e)))
    (λ e. let more = times-cons tag first marks in
    let none : once_if_same first tag ≡ 0 = ap (λ b. cond b 1 0) e in
    let f = found tag marks (omega (arith, more, none, h)) in (suc f.0, f.1))
    (is_true_or_false (same first tag))

-- the tags without the one at a place
times-remove : (tag : Tag) (marks : List Tag) (i : ℕ) (at : Tag) → slice_get marks i ≡ Some at
    → times tag (remove marks i) + once_if_same at tag ≡ times tag marks
times-remove tag marks i at there =
    subst (λ t. times tag (remove marks i) + once_if_same t tag ≡ times tag marks) (get_or_from_slice_get marks i at at there)
    (sum_by-remove (λ t. once_if_same t tag) marks i at (slice_get_within marks i at there))

pub AreMatched-from_times : (marks late : List Tag) → ((tag : Tag) → times tag late ≤ times tag marks) → AreMatched marks late
AreMatched-from_times marks [] fewer = tt
AreMatched-from_times marks (first ∷ late) fewer =
    let one : once_if_same first first ≡ 1 = ap (λ b. cond b 1 0) (same_self first) in
    let f = found first marks (omega (arith, fewer first, times-cons first first late, one)) in (
      f.0,
      f.1,
      AreMatched-from_times (remove marks f.0) late (λ tag. omega (arith, fewer tag, times-cons tag first late, times-remove tag marks f.0 first f.1)),
    )

pub times-from_AreMatched : (marks late : List Tag) → AreMatched marks late → (tag : Tag) → times tag late ≤ times tag marks
times-from_AreMatched marks [] m tag = omega arith
times-from_AreMatched marks (first ∷ late) m tag =
    omega (arith, times-from_AreMatched (remove marks m.0) late m.2 tag, times-cons tag first late, times-remove tag marks m.0 first m.1)
