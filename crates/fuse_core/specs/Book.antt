-- What the sender's book tells of the marks and late frames that came, and of those that were sent.
use Rattle.std.specs.Prelude.{◌≡◌, ◌≤◌, ◌⊎◌, ◌+◌, ◌*◌, ◌++◌, ℕ, Bool, true, List, [], ◌∷◌, Option, None, Some, length, map}
use Rattle.std.specs.HashMap.{get}
use Rattle.std.specs.List.{All, Contains, filter}
use Rattle.std.specs.Option.{option_to_list}
use Rattle.fuse_wire.specs.Faults.{counted}
use Rattle.fuse_core.specs.declared.book.Book.{Book}
use Rattle.fuse_core.specs.declared.unmatched.Unmatched.{Unmatched}
use Rattle.fuse_core.specs.declared.unmatched.Unmatched.TheVariants.{Marks, Frames}
use Rattle.fuse_core.specs.AreMatched.{HasUnused, Tag, same, times}

-- the tags of late frames
abbrev pub tags_of : {F : Type 0} → List (Tag × F) → List Tag
tags_of late = map (λ l. l.0) late

-- the late frames of a tag, in order
abbrev pub frames_of : {F : Type 0} → Tag → List (Tag × F) → List F
frames_of tag late = map (λ l. l.1) (filter (λ l. same l.0 tag) late)

-- the frame, where there is one, with its tag
abbrev pub tagged : {F : Type 0} → Tag → Option F → List (Tag × F)
tagged tag frame = map (λ f. (tag, f)) (option_to_list frame)

-- how many marks wait
abbrev pub marks_waiting : {F : Type 0} → Option (Unmatched F) → ℕ
marks_waiting None = 0
marks_waiting (Some (Marks others)) = others + 1
marks_waiting (Some (Frames first later)) = 0

-- the frames that wait, in order
abbrev pub frames_waiting : {F : Type 0} → Option (Unmatched F) → List F
frames_waiting None = []
frames_waiting (Some (Marks others)) = []
frames_waiting (Some (Frames first later)) = first ∷ later.items

-- how many marks or frames wait
abbrev pub how_many : {F : Type 0} → Option (Unmatched F) → ℕ
how_many waits = marks_waiting waits + length (frames_waiting waits)

-- what waits under a tag
abbrev pub waiting : {F : Type 0} → Book F → Tag → Option (Unmatched F)
waiting book tag = get same book.waiting tag

-- the frame that goes and the marks that are left are no more than the marks that waited and came
abbrev pub Backs : {F : Type 0} → (waits : Option (Unmatched F)) → (marks : ℕ) → (goes : Option F) → (left : Option (Unmatched F)) → Type 0
Backs waits marks goes left = length (option_to_list goes) + marks_waiting left ≤ marks_waiting waits + marks

-- What waited, with so many marks and the frame that come, is the frame that goes and what is left.
pub record Meets {F : Type 0} (waits : Option (Unmatched F)) (marks : ℕ) (comes goes : Option F) (left : Option (Unmatched F)) : Type 0 where
  pub counted : marks_waiting waits + marks ≡ length (option_to_list goes) + marks_waiting left
  pub in_order : frames_waiting waits ++ option_to_list comes ≡ option_to_list goes ++ frames_waiting left

-- What waited and the one that comes are the frame that goes with its mark, what is left, and so many that are lost.
abbrev pub Loses : {F : Type 0} → (waits : Option (Unmatched F)) → (goes : Option F) → (left : Option (Unmatched F)) → (lost : ℕ) → Type 0
Loses waits goes left lost = how_many waits + 1 ≡ 2 * length (option_to_list goes) + how_many left + lost

-- A mark or a late frame of the tag comes: as many are counted as are lost, of it and of what waited under the tag.
abbrev pub Counts : {F : Type 0} → (old new : Book F) → (tag : Tag) → (goes : Option F) → Type 0
Counts old new tag goes = (lost : ℕ) × Loses (waiting old tag) goes (waiting new tag) lost × (new.unrecorded ≡ counted old.unrecorded lost)

-- Of each tag the marks are as many as the frames sent and the marks that wait; and the frames that came are those sent, and then
-- those that wait, in order.
pub record Accounts {F : Type 0} (waits : Tag → Option (Unmatched F)) (marks : List Tag) (came sent : List (Tag × F)) : Type 0 where
  pub counted : (tag : Tag) → times tag marks ≡ length (frames_of tag sent) + marks_waiting (waits tag)
  pub in_order : (tag : Tag) → frames_of tag came ≡ frames_of tag sent ++ frames_waiting (waits tag)

-- The book of these marks and of the late frames that came, of which those were sent: no more of a tag than it has marks. Where all
-- could be kept, it accounts for each.
pub record IsBookOf {F : Type 0} (book : Book F) (marks : List Tag) (came sent : List (Tag × F)) : Type 0 where
  pub backed : (tag : Tag) → length (frames_of tag sent) + marks_waiting (waiting book tag) ≤ times tag marks
  pub accounts : book.unrecorded ≡ 0 → Accounts (waiting book) marks came sent

-- each frame that waits passes the test with the tag that it waits under
abbrev pub EachWaiting : {F : Type 0} → (test : Tag → F → Bool) → Book F → Type 0
EachWaiting test book = (tag : Tag) → All (λ f. test tag f ≡ true) (frames_waiting (waiting book tag))

-- each late frame that came was sent, or no mark of its tag is unused
abbrev pub EachSent : {F : Type 0} → (marks : List Tag) → (came sent : List (Tag × F)) → Type 0
EachSent marks came sent = All (λ late. Contains sent late ⊎ ¬ (HasUnused marks (tags_of sent) late.0)) came
