-- That a book stays one where a mark or a late frame comes, and what it tells of them.
use Rattle.std.proofs.Common.{◌≡◌, ◌≢◌, ◌≤◌, ◌<◌, ◌⊎◌, ◌+◌, ◌-◌, ◌++◌, ℕ, zero, suc, Bool, true, false, cond, List, [], ◌∷◌, Option, Some, None}
use Rattle.std.proofs.Common.{length, map, slice_index_or, refl, sym, ap, subst, ◌∙◌, ⊎_elim, inl, inr, arith}
use Rattle.std.proofs.Common.{append_assoc, append-nil, length-append}
use Rattle.std.specs.List.{All, Contains, filter}
use Rattle.std.specs.Map.{update}
use Rattle.std.specs.Option.{IfSome, option_to_list}
use Rattle.std.proofs.lemmas.List.{map-append}
use Rattle.std.proofs.lemmas.List.Elements.{All-append, All-cons, All-contains_itself, All-head, All-nil, All-tail, All-weaker}
use Rattle.std.proofs.lemmas.List.Elements.{Contains-append_left, Contains-append_right, filter-append}
use Rattle.std.proofs.lemmas.Map.{update-update}
use Rattle.fuse_wire.specs.Faults.{counted}
use Rattle.fuse_core.specs.declared.unmatched.Unmatched.{Unmatched}
use Rattle.fuse_core.specs.declared.unmatched.Unmatched.TheVariants.{Marks, Frames}
use Rattle.fuse_core.specs.declared.book.Book.{Book}
use Rattle.fuse_core.specs.Book.{Accounts, Backs, Counts, EachSent, EachWaiting, IsBookOf, Loses, Meets}
use Rattle.fuse_core.specs.Book.{frames_of, frames_waiting, how_many, marks_waiting, tagged, tags_of, waiting}
use Rattle.fuse_core.specs.AreMatched.{HasUnused, AreMatched, Tag, same, times}
use Rattle.fuse_core.proofs.Matching.{AreMatched-from_times, once_if_same, same_is, same_self, times-cons}

-- where no mark comes
pub none_more : (k tag : Tag) (marks : List Tag) → times k marks ≡ times k marks + cond (same tag k) 0 0
none_more k tag marks = by_test (same tag k) where
  by_test : (b : Bool) → times k marks ≡ times k marks + cond b 0 0
  by_test true = omega arith
  by_test false = omega arith

-- where what waits is as it was, and nothing waits under the tag
pub put_or_none : {X : Type 0} (waits : Tag → Option X) (tag : Tag) (left : Option X) → waits tag ≡ None
    → (k : Tag) → (waits k ≡ update same waits tag left k) ⊎ (waits k ≡ None)
put_or_none {X} waits tag left none k = by_test (same tag k) (same_is tag k) where
  by_test : (b : Bool) → (b ≡ true → tag ≡ k) → (waits k ≡ cond b left (waits k)) ⊎ (waits k ≡ None)
  by_test true at = inr (ap waits (sym (at refl)) ∙ none)
  by_test false at = inl refl

-- a tag that is another is not the same
pub same_not : (tag k : Tag) → k ≢ tag → same tag k ≡ false
same_not tag k other = by_test (same tag k) (same_is tag k) where
  by_test : (b : Bool) → (b ≡ true → tag ≡ k) → b ≡ false
  by_test true at = absurd (other (sym (at refl)))
  by_test false at = refl

-- an item of a list with one more in front
module _ {X : Type 0} where
  pub Contains-first : (x y : X) (xs : List X) → x ≡ y → Contains (x ∷ xs) y
  Contains-first x y xs is = (0, omega arith, is)

  pub Contains-later : (x y : X) (xs : List X) → Contains xs y → Contains (x ∷ xs) y
  Contains-later x y xs there = Contains-append_right (x ∷ []) xs y there

  pub first_or_later : (x y : X) (xs : List X) → Contains (x ∷ xs) y → (x ≡ y) ⊎ Contains xs y
  first_or_later x y xs there = at there.0 there.1 there.2 where
    at : (k : ℕ) → k < length (x ∷ xs) → slice_index_or (x ∷ xs) k y ≡ y → (x ≡ y) ⊎ Contains xs y
    at zero within is = inl is
    at (suc k) within is = inr (k, omega arith, is)

module _ {F : Type 0} where
  abbrev frames : List (Tag × F) → List F
  frames late = map (λ l. l.1) late

  abbrev with_tag : Tag → List (Tag × F) → List (Tag × F)
  with_tag tag late = filter (λ l. same l.0 tag) late

  frames_of-append : (tag : Tag) (xs ys : List (Tag × F)) → frames_of tag (xs ++ ys) ≡ frames_of tag xs ++ frames_of tag ys
  frames_of-append tag xs ys =
      ap frames (filter-append (λ l. same l.0 tag) xs ys) ∙ map-append (λ (l : Tag × F). l.1) (with_tag tag xs) (with_tag tag ys)

  frames_of-tagged : (k tag : Tag) (frame : Option F) → frames_of k (tagged tag frame) ≡ option_to_list (cond (same tag k) frame None)
  frames_of-tagged k tag None = by_test (same tag k) where
    by_test : (b : Bool) → frames [] ≡ option_to_list (cond b None None)
    by_test true = refl
    by_test false = refl
  frames_of-tagged k tag (Some frame) = by_test (same tag k) where
    by_test : (b : Bool) → frames (cond b ((tag, frame) ∷ []) []) ≡ option_to_list (cond b (Some frame) None)
    by_test true = refl
    by_test false = refl

  -- the frames of a tag, where one more came, of this tag or another
  frames_of-more : (k tag : Tag) (late : List (Tag × F)) (frame : Option F)
      → frames_of k (late ++ tagged tag frame) ≡ frames_of k late ++ option_to_list (cond (same tag k) frame None)
  frames_of-more k tag late frame = frames_of-append k late (tagged tag frame) ∙ ap (λ l. frames_of k late ++ l) (frames_of-tagged k tag frame)

  times-tags_of : (tag : Tag) (late : List (Tag × F)) → times tag (tags_of late) ≡ length (frames_of tag late)
  times-tags_of tag [] = refl
  times-tags_of tag (l ∷ late) =
      times-cons tag l.0 (tags_of late) ∙ ap (λ n. once_if_same l.0 tag + n) (times-tags_of tag late) ∙ by_test (same l.0 tag) where
        by_test : (b : Bool) → cond b 1 0 + length (frames_of tag late) ≡ length (frames (cond b (l ∷ with_tag tag late) (with_tag tag late)))
        by_test true = omega arith
        by_test false = omega arith

  -- What waits under any tag, where something comes for one.
  backs_at : (b : Bool) (more : ℕ) (goes : Option F) (left here old : Option (Unmatched F)) → (b ≡ true → here ≡ old) → Backs here more goes left
      → Backs old (cond b more 0) (cond b goes None) (cond b left old)
  backs_at true more goes left here old at backs = subst (λ w. Backs w more goes left) (at refl) backs
  backs_at false more goes left here old at backs = omega arith

  meets_at : (b : Bool) (more : ℕ) (comes goes : Option F) (left here old : Option (Unmatched F)) → (b ≡ true → here ≡ old)
      → Meets here more comes goes left → Meets old (cond b more 0) (cond b comes None) (cond b goes None) (cond b left old)
  meets_at true more comes goes left here old at met = subst (λ w. Meets w more comes goes left) (at refl) met
  meets_at false more comes goes left here old at met = record { counted = omega arith; in_order = append-nil (frames_waiting old) }

  module _ (tag : Tag) (more : ℕ) (comes goes : Option F) (left : Option (Unmatched F)) (marks marks' : List Tag) (came sent : List (Tag × F))
      (marked : (k : Tag) → times k marks' ≡ times k marks + cond (same tag k) more 0) where
    sent_more : (k : Tag) → length (frames_of k (sent ++ tagged tag goes)) ≡ length (frames_of k sent) + length (option_to_list (cond (same tag k) goes None))
    sent_more k = ap length (frames_of-more k tag sent goes) ∙ length-append (frames_of k sent) (option_to_list (cond (same tag k) goes None))

    stays_backed : (old new : Tag → Option (Unmatched F)) → Backs (old tag) more goes left
        → ((k : Tag) → marks_waiting (new k) ≤ marks_waiting (update same old tag left k))
        → ((k : Tag) → length (frames_of k sent) + marks_waiting (old k) ≤ times k marks)
        → (k : Tag) → length (frames_of k (sent ++ tagged tag goes)) + marks_waiting (new k) ≤ times k marks'
    stays_backed old new backs at_most before k =
        let here = backs_at (same tag k) more goes left (old tag) (old k) (λ e. ap old (same_is tag k e)) backs in
        omega (arith, here, sent_more k, at_most k, before k, marked k)

    still_accounts : (old new : Tag → Option (Unmatched F)) → Meets (old tag) more comes goes left → ((k : Tag) → new k ≡ update same old tag left k)
        → Accounts old marks came sent → Accounts new marks' (came ++ tagged tag comes) (sent ++ tagged tag goes)
    still_accounts old new met stored before =
        let here = λ (k : Tag). meets_at (same tag k) more comes goes left (old tag) (old k) (λ e. ap old (same_is tag k e)) met in record {
          counted = λ k. omega (arith, (here k).counted, sent_more k, ap marks_waiting (stored k), before.counted k, marked k);
          in_order = λ k.
              let coming = option_to_list (cond (same tag k) comes None) in
              let going = option_to_list (cond (same tag k) goes None) in
              let remains = frames_waiting (update same old tag left k) in
              frames_of-more k tag came comes ∙ ap (λ l. l ++ coming) (before.in_order k)
              ∙ append_assoc (frames_of k sent) (frames_waiting (old k)) coming
              ∙ ap (λ l. frames_of k sent ++ l) (here k).in_order
              ∙ sym (append_assoc (frames_of k sent) going remains)
              ∙ ap (λ l. l ++ remains) (sym (frames_of-more k tag sent goes))
              ∙ ap (λ w. frames_of k (sent ++ tagged tag goes) ++ frames_waiting w) (sym (stored k));
        }

    -- A mark or a late frame comes: what waits under its tag is taken out, and what is left is put back.
    pub IsBookOf-after : (old new : Book F) (mid : Tag → Option (Unmatched F)) (kept : Bool)
        → ((k : Tag) → mid k ≡ update same (waiting old) tag None k)
        → Backs (waiting old tag) more goes left
        → (kept ≡ true → Meets (waiting old tag) more comes goes left)
        → ((k : Tag) → marks_waiting (waiting new k) ≤ marks_waiting (update same mid tag left k))
        → (new.unrecorded ≡ 0 → (kept ≡ true) × (old.unrecorded ≡ 0) × ((k : Tag) → waiting new k ≡ update same mid tag left k))
        → IsBookOf old marks came sent → IsBookOf new marks' (came ++ tagged tag comes) (sent ++ tagged tag goes)
    IsBookOf-after old new mid kept removed backs met at_most stored book =
        let put = λ (k : Tag). ap (λ w. cond (same tag k) left w) (removed k) ∙ update-update same (waiting old) tag None left k in record {
          backed = stays_backed (waiting old) (waiting new) backs
              (λ k. subst (λ w. marks_waiting (waiting new k) ≤ marks_waiting w) (put k) (at_most k)) book.backed;
          accounts = λ whole.
              let s = stored whole in still_accounts (waiting old) (waiting new) (met s.0) (λ k. s.2 k ∙ put k) (book.accounts s.1);
        }

  -- no more waits under the tag than was put there
  at_most_left : (tag : Tag) (left : Option (Unmatched F)) (before after : Tag → Option (Unmatched F))
      → (after tag ≡ update same before tag left tag) ⊎ (after tag ≡ None) → how_many (after tag) ≤ how_many left
  at_most_left tag left before after stored = ⊎_elim
      (λ is.
      let here : after tag ≡ left = is ∙ ap (λ b. cond b left (before tag)) (same_self tag) in omega (arith, ap how_many here))
      (λ none. omega (arith, ap how_many none)) stored

  -- A mark or a late frame comes: what is counted is what was not kept of it, and what is missing of what was put back.
  pub Counts-after : (tag : Tag) (goes : Option F) (left : Option (Unmatched F)) (unkept : ℕ) (old new : Book F) (mid : Tag → Option (Unmatched F))
      → Loses (waiting old tag) goes left unkept
      → ((k : Tag) → (waiting new k ≡ update same mid tag left k) ⊎ (waiting new k ≡ None))
      → new.unrecorded ≡ counted old.unrecorded (unkept + (how_many left - how_many (waiting new tag)))
      → Counts old new tag goes
  Counts-after tag goes left unkept old new mid loses stored told =
      (unkept + (how_many left - how_many (waiting new tag)), omega (arith, loses, at_most_left tag left mid (waiting new) (stored tag)), told)

  module _ (P : F → Type 0) where
    All-maybe : (frame : Option F) → IfSome frame P → All P (option_to_list frame)
    All-maybe None h = All-nil P
    All-maybe (Some f) h = All-cons P f [] h (All-nil P)

    All-parts : (frame : Option F) (later : List F) → All P (option_to_list frame ++ later) → All P later × IfSome frame P
    All-parts None later h = (h, tt)
    All-parts (Some f) later h = (All-tail P f later h, All-head P f later h)

    -- What holds of the frame that comes and of each that waited holds of the one that goes and of each that is left, kept or refused.
    holds_of_left : (kept : Bool) (more : ℕ) (comes goes : Option F) (waits left : Option (Unmatched F))
        → (kept ≡ true → Meets waits more comes goes left)
        → (kept ≡ false → (goes ≡ None) × (frames_waiting left ≡ frames_waiting waits))
        → IfSome comes P → All P (frames_waiting waits) → All P (frames_waiting left) × IfSome goes P
    holds_of_left true more comes goes waits left met refused coming before =
        All-parts goes (frames_waiting left)
        (subst (All P) (met refl).in_order (All-append P (frames_waiting waits) (option_to_list comes) before (All-maybe comes coming)))
    holds_of_left false more comes goes waits left met refused coming before =
        let same_frames = refused refl in
        (subst (All P) (sym same_frames.1) before, subst (λ f. IfSome f P) (sym same_frames.0) tt)

  -- A mark or a late frame comes: the frame that goes is one of its own tag, and so is each that waits.
  module _ (test : Tag → F → Bool) (tag : Tag) where
    abbrev IsOwn : Tag → F → Type 0
    IsOwn k f = test k f ≡ true

    own_at : (k : Tag) (b : Bool) (left old : Option (Unmatched F)) → (b ≡ true → tag ≡ k)
        → All (IsOwn tag) (frames_waiting left) → All (IsOwn k) (frames_waiting old) → All (IsOwn k) (frames_waiting (cond b left old))
    own_at k true left old at here there = subst (λ t. All (IsOwn t) (frames_waiting left)) (at refl) here
    own_at k false left old at here there = there

    pub EachWaiting-after : (more : ℕ) (comes goes : Option F) (left : Option (Unmatched F)) (old new : Book F) (mid : Tag → Option (Unmatched F))
        (kept : Bool) → ((k : Tag) → mid k ≡ update same (waiting old) tag None k)
        → (kept ≡ true → Meets (waiting old tag) more comes goes left)
        → (kept ≡ false → (goes ≡ None) × (frames_waiting left ≡ frames_waiting (waiting old tag)))
        → ((k : Tag) → (waiting new k ≡ update same mid tag left k) ⊎ (waiting new k ≡ None))
        → IfSome comes (IsOwn tag) → EachWaiting test old → EachWaiting test new × IfSome goes (IsOwn tag)
    EachWaiting-after more comes goes left old new mid kept removed met refused stored coming before =
        let parts = holds_of_left (IsOwn tag) kept more comes goes (waiting old tag) left met refused coming (before tag) in (
          λ k.
              let put = ap (λ w. cond (same tag k) left w) (removed k) ∙ update-update same (waiting old) tag None left k in
              let here = own_at k (same tag k) left (waiting old k) (same_is tag k) parts.0 (before k) in
              ⊎_elim (λ is. subst (λ w. All (IsOwn k) (frames_waiting w)) (sym (is ∙ put)) here)
              (λ none. subst (λ w. All (IsOwn k) (frames_waiting w)) (sym none) (All-nil (IsOwn k))) (stored k),
          parts.1,
        )

  -- marks and frames never wait both
  either : (waits : Option (Unmatched F)) → (frames_waiting waits ≡ []) ⊎ (marks_waiting waits ≡ 0)
  either None = inl refl
  either (Some (Marks others)) = inl refl
  either (Some (Frames first later)) = inr refl

  Contains-frames_of : (l : Tag × F) (late : List (Tag × F)) → Contains late l → Contains (frames_of l.0 late) l.1
  Contains-frames_of l [] there = absurd (omega (arith, there.1))
  Contains-frames_of l (x ∷ late) there = ⊎_elim
      (λ is.
      let e : same x.0 l.0 ≡ true = ap (λ (y : Tag × F). same y.0 l.0) is ∙ same_self l.0 in
      rw e (Contains-first x.1 l.1 (frames_of l.0 late) (ap (λ (y : Tag × F). y.1) is)))
      (λ later. by_test (same x.0 l.0) (Contains-frames_of l late later))
      (first_or_later x l late there) where
        by_test : (b : Bool) → Contains (frames_of l.0 late) l.1 → Contains (frames (cond b (x ∷ with_tag l.0 late) (with_tag l.0 late))) l.1
        by_test true later = Contains-later x.1 l.1 (frames_of l.0 late) later
        by_test false later = later

  Contains-tagged : (tag : Tag) (frame : F) (late : List (Tag × F)) → Contains (frames_of tag late) frame → Contains late (tag, frame)
  Contains-tagged tag frame [] there = absurd (omega (arith, there.1))
  Contains-tagged tag frame (x ∷ late) there =
      by_test (same x.0 tag) refl there (λ later. Contains-later x (tag, frame) late (Contains-tagged tag frame late later)) where
        by_test : (b : Bool) → same x.0 tag ≡ b → Contains (frames (cond b (x ∷ with_tag tag late) (with_tag tag late))) frame
            → (Contains (frames_of tag late) frame → Contains (x ∷ late) (tag, frame)) → Contains (x ∷ late) (tag, frame)
        by_test true e here under =
            ⊎_elim (λ is. Contains-first x (tag, frame) late (λ i. (same_is x.0 tag e i, is i))) under (first_or_later x.1 frame (frames_of tag late) here)
        by_test false e later under = under later

  module _ (book : Book F) (marks : List Tag) (came sent : List (Tag × F)) (h : IsBookOf book marks came sent) where
    pub IsBookOf-matches : AreMatched marks (tags_of sent)
    IsBookOf-matches = AreMatched-from_times marks (tags_of sent) (λ tag. omega (arith, h.backed tag, times-tags_of tag sent))

    no_unused : book.unrecorded ≡ 0 → (tag : Tag) → marks_waiting (waiting book tag) ≡ 0 → ¬ (HasUnused marks (tags_of sent) tag)
    no_unused whole tag none unused = omega (arith, (h.accounts whole).counted tag, none, unused, times-tags_of tag sent)

    pub IsBookOf-holds_none : book.unrecorded ≡ 0 → (tag : Tag) → HasUnused marks (tags_of sent) tag → frames_waiting (waiting book tag) ≡ []
    IsBookOf-holds_none whole tag unused = ⊎_elim (λ e. e) (λ none. absurd (no_unused whole tag none unused)) (either (waiting book tag))

    pub IsBookOf-sent : book.unrecorded ≡ 0 → EachSent marks came sent
    IsBookOf-sent whole =
        All-weaker (Contains came) (λ l. Contains sent l ⊎ ¬ (HasUnused marks (tags_of sent) l.0)) (λ l there. ⊎_elim
        (λ none.
        let all = (h.accounts whole).in_order l.0 ∙ ap (λ fs. frames_of l.0 sent ++ fs) none ∙ append-nil (frames_of l.0 sent) in
        inl (Contains-tagged l.0 l.1 sent (subst (λ (fs : List F). Contains fs l.1) all (Contains-frames_of l came there))))
        (λ none. inr (no_unused whole l.0 none))
        (either (waiting book l.0))) came (All-contains_itself came)

    pub IsBookOf-came : book.unrecorded ≡ 0 → All (Contains came) sent
    IsBookOf-came whole =
        All-weaker (Contains sent) (Contains came) (λ l there.
        let among = Contains-append_left (frames_of l.0 sent) (frames_waiting (waiting book l.0)) l.1 (Contains-frames_of l sent there) in
        Contains-tagged l.0 l.1 came (subst (λ (fs : List F). Contains fs l.1) (sym ((h.accounts whole).in_order l.0)) among)) sent
        (All-contains_itself sent)
