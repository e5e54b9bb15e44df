-- What the book tells of the late frames that were let go, where each came under its own tag.
use Rattle.std.proofs.Common.{◌≡◌, ◌⊎◌, ◌∙◌, true, List, [], ◌∷◌, ap, inl, inr, map, refl, subst, sym, arith}
use Rattle.std.specs.List.{All, AllByRecursion, Contains}
use Rattle.std.proofs.lemmas.List.Elements.{All-cons, All-head, All-tail, All-weaker}
use Rattle.std.proofs.lemmas.Option.{none-some}
use Rattle.fuse_reply.specs.Late.{LateSeen}
use Rattle.fuse_core.specs.Book.{IsBookOf, tags_of}
use Rattle.fuse_core.specs.Marks.{late_tag}
use Rattle.fuse_core.specs.AreMatched.{HasUnused, AreMatched, Tag}
use Rattle.fuse_workers.specs.OnePerMessageLater.{EachLetGo}
use Rattle.fuse_workers.specs.Relays.{IsLateReply, is_own, with_tag}
use Rattle.fuse_core.specs.declared.book.Book.{Book}
use Rattle.fuse_core.proofs.Bookkeeping.{IsBookOf-came, IsBookOf-matches, IsBookOf-sent, first_or_later, Contains-first, Contains-later}
use Rattle.fuse_core.proofs.Matching.{same_is}
use Rattle.fuse_workers.proofs.Splitting.{frames_gone}

-- late frames that have the tags which they went under
all-tagged : (gone : List (Tag × LateSeen)) → AllByRecursion (λ l. is_own l.0 l.1 ≡ true) gone → gone ≡ map with_tag (frames_gone gone)
all-tagged [] own = refl
all-tagged (g ∷ gone) own =
    let tag : late_tag g.1 ≡ g.0 = same_is (late_tag g.1) g.0 own.0 in
    let others = all-tagged gone own.1 in
    λ i. (sym tag i, g.1) ∷ others i

tags-frames : (late : List LateSeen) → tags_of (map with_tag late) ≡ map late_tag late
tags-frames [] = refl
tags-frames (l ∷ late) = ap (λ (x : List Tag). late_tag l ∷ x) (tags-frames late)

contains-frame : (l : LateSeen) (late : List LateSeen) → Contains (map with_tag late) (with_tag l) → Contains late l
contains-frame l [] there = absurd (omega (arith, there.1))
contains-frame l (x ∷ late) there = by_place (first_or_later (with_tag x) (with_tag l) (map with_tag late) there) (contains-frame l late) where
  by_place : (with_tag x ≡ with_tag l) ⊎ Contains (map with_tag late) (with_tag l) → (Contains (map with_tag late) (with_tag l) → Contains late l)
      → Contains (x ∷ late) l
  by_place (inl is) among = Contains-first x l late (ap (λ (y : Tag × LateSeen). y.1) is)
  by_place (inr later) among = Contains-later x l late (among later)

-- what each of a mapped list is, each of the list is under the map
all-under : (P : Tag × LateSeen → Type 0) (came : List LateSeen) → All P (map with_tag came) → All (λ l. P (with_tag l)) came
all-under P [] all = λ place default within. absurd (omega (arith, within))
all-under P (l ∷ came) all = All-cons (λ x. P (with_tag x)) l came (All-head P (with_tag l) (map with_tag came) all)
    (all-under P came (All-tail P (with_tag l) (map with_tag came) all))

-- without a mark none was let go
pub none-gone : (gone : List (Tag × LateSeen)) → AreMatched [] (tags_of gone) → gone ≡ []
none-gone [] matched = refl
none-gone (g ∷ gone) matched = absurd (none-some _ matched.1)

-- none of none
pub none-arrived : (came : List LateSeen) → All (Contains came) []
none-arrived came = λ place default within. absurd (omega (arith, within))

pub none-unused : (came gone : List LateSeen) → EachLetGo [] came gone
none-unused came gone = λ place default within. inr (λ unused. omega (arith, unused))

pub replies-gone : (gone : List (Tag × LateSeen)) → AllByRecursion (λ l. IsLateReply l.1) gone → AllByRecursion IsLateReply (frames_gone gone)
replies-gone [] all = tt
replies-gone (g ∷ gone) all = (all.0, replies-gone gone all.1)

module _ (book : Book LateSeen) (marks : List Tag) (came gone : List (Tag × LateSeen)) (is : IsBookOf book marks came gone)
    (own : AllByRecursion (λ l. is_own l.0 l.1 ≡ true) gone) where
  pub their-own : gone ≡ map with_tag (frames_gone gone)
  their-own = all-tagged gone own

  pub their-tags : tags_of gone ≡ map late_tag (frames_gone gone)
  their-tags = ap tags_of their-own ∙ tags-frames (frames_gone gone)

  -- they go to different marks, each with its number and id
  pub gone-matched : AreMatched marks (map late_tag (frames_gone gone))
  gone-matched = subst (λ (tags : List Tag). AreMatched marks tags) their-tags (IsBookOf-matches book marks came gone is)

module _ (book : Book LateSeen) (marks : List Tag) (came : List LateSeen) (gone : List (Tag × LateSeen))
    (is : IsBookOf book marks (map with_tag came) gone) (own : AllByRecursion (λ l. is_own l.0 l.1 ≡ true) gone) (whole : book.unrecorded ≡ 0) where
  tags : tags_of gone ≡ map late_tag (frames_gone gone)
  tags = their-tags book marks (map with_tag came) gone is own

  all : gone ≡ map with_tag (frames_gone gone)
  all = their-own book marks (map with_tag came) gone is own

  -- each that was let go had come
  pub each-arrived : All (Contains came) (frames_gone gone)
  each-arrived =
      All-weaker (λ l. Contains (map with_tag came) (with_tag l)) (λ l. Contains came l) (λ l. contains-frame l came) (frames_gone gone)
      (all-under (λ l. Contains (map with_tag came) l) (frames_gone gone)
      (subst (λ (x : List (Tag × LateSeen)). All (Contains (map with_tag came)) x) all
      (IsBookOf-came book marks (map with_tag came) gone is whole)))

  -- each that came was let go, or has no unused mark
  pub each-let_go : EachLetGo marks came (frames_gone gone)
  each-let_go =
      All-weaker (λ l. Contains gone (with_tag l) ⊎ (HasUnused marks (tags_of gone) (late_tag l) → ⊥))
      (λ l. Contains (frames_gone gone) l ⊎ (HasUnused marks (map late_tag (frames_gone gone)) (late_tag l) → ⊥)) (λ l. by_law l) came
      (all-under (λ l. Contains gone l ⊎ (HasUnused marks (tags_of gone) l.0 → ⊥)) came (IsBookOf-sent book marks (map with_tag came) gone is whole)) where
        by_law : (l : LateSeen) → Contains gone (with_tag l) ⊎ (HasUnused marks (tags_of gone) (late_tag l) → ⊥)
            → Contains (frames_gone gone) l ⊎ (HasUnused marks (map late_tag (frames_gone gone)) (late_tag l) → ⊥)
        by_law l (inl there) = inl (contains-frame l (frames_gone gone) (subst (λ (x : List (Tag × LateSeen)). Contains x (with_tag l)) all there))
        by_law l (inr none) = inr (λ unused. none (subst (λ (ts : List Tag). HasUnused marks ts (late_tag l)) (sym tags) unused))
