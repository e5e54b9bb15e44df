-- The rule of a line, of the items that it holds and of what each of its passes knows: each item that was pushed was taken once
-- or lies in the line. It holds before and after each step of each thread.
use Rattle.std.specs.Prelude.{◌≡◌, ◌≤◌, ◌+◌, ℕ, Bool, List, [], ◌∷◌, ◌++◌, filter, flat_map}
use Rattle.std.specs.List.Sorted.{IsPermutation}
use mathlib.Core.Option.{some}
use lib.ListN.{get_elem?}
use Rattle.fuse_line.specs.declared.hand.Hand.{Hand}
use Rattle.fuse_line.specs.declared.hand.Kind.{Kind}
use Rattle.fuse_line.specs.declared.hand.Kind.TheVariants.{First, Inner, Door, Spent}
use Rattle.fuse_line.specs.Hand.{inner_of}

abbrev pub first_of : Kind → ℕ
first_of First = 1
first_of Inner = 0
first_of Door = 0
first_of Spent = 0

-- a number of each pass, added up
abbrev pub total : {T : Type 0} → (Hand T → ℕ) → List (Hand T) → ℕ
total f [] = 0
total f (v ∷ vs) = f v + total f vs

-- all that was pushed, and all that was taken
abbrev pub puts : {T : Type 0} → List (Hand T) → List T
puts {T} views = flat_map (λ (v : Hand T). v.put) views

abbrev pub takens : {T : Type 0} → List (Hand T) → List T
takens {T} views = flat_map (λ (v : Hand T). v.taken) views

-- a door pushed no inner item and took nothing, a spent pass is empty, and the first alone counts others
abbrev pub SoundAs : {T : Type 0} → (T → Bool) → Kind → ℕ → List T → List T → Type 0
SoundAs inner First others put taken = Unit {0}
SoundAs inner Inner others put taken = others ≡ 0
SoundAs inner Door others put taken = (others ≡ 0) × (filter inner put ≡ []) × (taken ≡ [])
SoundAs inner Spent others put taken = (others ≡ 0) × (put ≡ []) × (taken ≡ [])

abbrev pub IsSound : {T : Type 0} → (T → Bool) → Hand T → Type 0
IsSound inner v = SoundAs inner v.kind v.others v.put v.taken

pub record LineRule {T : Type 0} (inner : T → Bool) (items : List T) (views : List (Hand T)) : Type 0 where
  -- each item was pushed as often as it was taken or lies in the line
  pub moved : IsPermutation (puts views) (takens views ++ items)
  -- one pass is the first
  pub one : total (λ v. first_of v.kind) views ≡ 1
  -- what it counts is at least the number of inner passes
  pub counted : total (λ v. inner_of v.kind) views ≤ total (λ v. v.others) views
  -- each pass keeps to its kind
  pub sound : (place : ℕ) (v : Hand T) → get_elem? views place ≡ some v → IsSound inner v
