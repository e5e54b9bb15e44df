-- That marks and late frames stay matched where a mark comes or a late frame is sent; and held frames looked through.
use Rattle.std.proofs.Common.{◌≡◌, ◌+◌, ◌<◌, ◌≤◌, ℕ, suc, List, [], ◌∷◌, ◌++◌, Bool, true, false}
use Rattle.std.proofs.Common.{cond, drop, get_or, if◌then◌else◌, length, map, remove, take}
use Rattle.std.proofs.Common.{sym, ap, ◌∙◌, subst, refl, arith}
use Rattle.std.proofs.lemmas.Bool.{ltb-true}
use Rattle.std.proofs.lemmas.List.{append-nil, append_assoc, at_drop_all, at_drop_more, map-append, take_all, take_more}
use Rattle.std.proofs.lemmas.List.Sums.{sum_by-append, sum_by_push}
use Rattle.fuse_reply.specs.Late.{LateSeen}
use Rattle.fuse_core.specs.Marks.{is_unused, late_tag, let_go, still_held, tag_of}
use Rattle.fuse_core.specs.AreMatched.{AreMatched, Tag, same, times}
use Rattle.fuse_core.specs.declared.state.Mark.{Mark}
use Rattle.fuse_core.proofs.Matching.{AreMatched-from_times, once_if_same, same_is, times-cons, times-from_AreMatched}

times-append : (tag : Tag) (xs ys : List Tag) → times tag (xs ++ ys) ≡ times tag xs + times tag ys
times-append tag xs ys = sum_by-append (λ t. once_if_same t tag) xs ys

times-push : (tag : Tag) (xs : List Tag) (x : Tag) → times tag (xs ++ x ∷ []) ≡ times tag xs + once_if_same x tag
times-push tag xs x = sum_by_push (λ t. once_if_same t tag) xs x

-- at most one frame is let go, and it has the tag
let_go-once : (tag other : Tag) (held : List LateSeen) → times other (map late_tag (let_go tag held)) ≤ once_if_same tag other
let_go-once tag other [] = omega arith
let_go-once tag other (x ∷ xs) = by_test (same (late_tag x) tag) refl (let_go-once tag other xs) where
  by_test : (b : Bool) → same (late_tag x) tag ≡ b → times other (map late_tag (let_go tag xs)) ≤ once_if_same tag other
      → times other (map late_tag (if b then x ∷ [] else let_go tag xs)) ≤ once_if_same tag other
  by_test true is later =
      omega (arith, times-cons other (late_tag x) [], ap (λ (t : Tag). once_if_same t other) (same_is (late_tag x) tag is))
  by_test false is later = later

-- a mark came, and the first held frame that goes to it was sent
pub AreMatched-marked : (marks : List Mark) (lates held : List LateSeen) (mark : Mark) → AreMatched (map tag_of marks) (map late_tag lates)
    → AreMatched (map tag_of (marks ++ mark ∷ [])) (map late_tag (lates ++ let_go (tag_of mark) held))
AreMatched-marked marks lates held mark h =
    let tags = map tag_of marks in
    let late = map late_tag lates in
    let go = map late_tag (let_go (tag_of mark) held) in
    subst (λ (l : List Tag). AreMatched l (map late_tag (lates ++ let_go (tag_of mark) held))) (sym (map-append tag_of marks (mark ∷ [])))
    (subst (AreMatched (tags ++ tag_of mark ∷ [])) (sym (map-append late_tag lates (let_go (tag_of mark) held)))
    (AreMatched-from_times (tags ++ tag_of mark ∷ []) (late ++ go) (λ tag. omega (
      arith,
      times-from_AreMatched tags late h tag,
      times-append tag late go,
      let_go-once (tag_of mark) tag held,
      times-push tag tags (tag_of mark),
    ))))

-- a late frame was sent, for which a mark is unused
pub AreMatched-late : (marks : List Mark) (lates : List LateSeen) (late : LateSeen) → is_unused (late_tag late) marks lates ≡ true
    → AreMatched (map tag_of marks) (map late_tag lates) → AreMatched (map tag_of marks) (map late_tag (lates ++ late ∷ []))
AreMatched-late marks lates late unused h =
    subst (AreMatched (map tag_of marks)) (sym (map-append late_tag lates (late ∷ [])))
    (AreMatched-from_times (map tag_of marks) (map late_tag lates ++ late_tag late ∷ []) (λ tag. by_test tag (same (late_tag late) tag) refl)) where
      by_test : (tag : Tag) (b : Bool) → same (late_tag late) tag ≡ b
          → times tag (map late_tag lates ++ late_tag late ∷ []) ≤ times tag (map tag_of marks)
      by_test tag true is =
          let more : times tag (map late_tag lates) < times tag (map tag_of marks) =
          subst (λ (t : Tag). times t (map late_tag lates) < times t (map tag_of marks)) (same_is (late_tag late) tag is)
          (ltb-true (times (late_tag late) (map late_tag lates)) (times (late_tag late) (map tag_of marks)) unused) in
          let one : once_if_same (late_tag late) tag ≡ 1 = ap (λ (b : Bool). cond b 1 0) is in
          omega (arith, more, times-push tag (map late_tag lates) (late_tag late), one)
      by_test tag false is =
          let none : once_if_same (late_tag late) tag ≡ 0 = ap (λ (b : Bool). cond b 1 0) is in
          omega (
            arith,
            times-from_AreMatched (map tag_of marks) (map late_tag lates) h tag,
            times-push tag (map late_tag lates) (late_tag late),
            none,
          )

-- What is held, looked through from the first place on: no frame before this place has the tag.
module _ (tag : Tag) (held : List LateSeen) (place : ℕ) (x : LateSeen) (within : place < length held) (at : x ≡ get_or held place x) where
  pub let_go-next : same (late_tag x) tag ≡ false → let_go tag (drop place held) ≡ let_go tag (drop (place + 1) held)
  let_go-next other =
      at_drop_more (let_go tag) held place x within
      ∙ ap (λ (y : LateSeen). let_go tag (y ∷ drop (place + 1) held)) (sym at)
      ∙ ap (λ (b : Bool). if b then x ∷ [] else let_go tag (drop (place + 1) held)) other

  pub still_held-next : same (late_tag x) tag ≡ false
      → take place held ++ still_held tag (drop place held) ≡ take (place + 1) held ++ still_held tag (drop (place + 1) held)
  still_held-next other =
      ap (λ (l : List LateSeen). take place held ++ l) (at_drop_more (still_held tag) held place x within
      ∙ ap (λ (y : LateSeen). still_held tag (y ∷ drop (place + 1) held)) (sym at)
      ∙ ap (λ (b : Bool). if b then drop (place + 1) held else x ∷ still_held tag (drop (place + 1) held)) other)
      ∙ sym (append_assoc (take place held) (x ∷ []) (still_held tag (drop (place + 1) held)))
      ∙ ap (λ (y : LateSeen). (take place held ++ y ∷ []) ++ still_held tag (drop (place + 1) held)) at
      ∙ ap (λ (l : List LateSeen). l ++ still_held tag (drop (place + 1) held)) (sym (take_more held place x within))

  pub let_go-found : same (late_tag x) tag ≡ true → let_go tag (drop place held) ≡ x ∷ []
  let_go-found is =
      at_drop_more (let_go tag) held place x within
      ∙ ap (λ (y : LateSeen). let_go tag (y ∷ drop (place + 1) held)) (sym at)
      ∙ ap (λ (b : Bool). if b then x ∷ [] else let_go tag (drop (place + 1) held)) is

  pub still_held-found : same (late_tag x) tag ≡ true → take place held ++ still_held tag (drop place held) ≡ remove held place
  still_held-found is =
      let next : place + 1 ≡ suc place = omega arith in
      ap (λ (l : List LateSeen). take place held ++ l) (at_drop_more (still_held tag) held place x within
      ∙ ap (λ (y : LateSeen). still_held tag (y ∷ drop (place + 1) held)) (sym at)
      ∙ ap (λ (b : Bool). if b then drop (place + 1) held else x ∷ still_held tag (drop (place + 1) held)) is
      ∙ ap (λ (k : ℕ). drop k held) next)

pub let_go-end : (tag : Tag) (held : List LateSeen) (place : ℕ) → length held ≤ place → let_go tag (drop place held) ≡ []
let_go-end tag held place past = at_drop_all (let_go tag) held place past

pub still_held-end : (tag : Tag) (held : List LateSeen) (place : ℕ) → length held ≤ place → take place held ++ still_held tag (drop place held) ≡ held
still_held-end tag held place past =
    ap (λ (l : List LateSeen). take place held ++ l) (at_drop_all (still_held tag) held place past) ∙ append-nil (take place held)
    ∙ take_all place held past
