-- Marks of replies that come later, and the late frames that they let go. Of each only its tag matters here.
use Rattle.std.specs.Prelude.{◌≡◌, ◌<◌, ◌==◌, ◌&&◌, ℕ, Bool, List, [], ◌∷◌, Some, slice_get, remove}
use Rattle.std.specs.List.{count_by}

-- the number of a message, and the id of its request
abbrev pub Tag : Type 0
Tag = ℕ × ℕ

-- the two tags are one
abbrev pub same : Tag → Tag → Bool
same a b = (a.0 == b.0) && (a.1 == b.1)

-- how many of the tags are this one
abbrev pub times : Tag → List Tag → ℕ
times tag tags = count_by (λ t. same t tag) tags

-- There is an unused mark of the tag: more marks have it than late frames that were sent.
abbrev pub HasUnused : (marks sent : List Tag) → Tag → Type 0
HasUnused marks sent tag = times tag sent < times tag marks

-- The late frames go to different marks, each with its tag.
abbrev pub AreMatched : (marks late : List Tag) → Type 0
AreMatched marks [] = Unit {0}
AreMatched marks (tag ∷ late) = (i : ℕ) × (slice_get marks i ≡ Some tag) × AreMatched (remove marks i) late
