-- What follows from the rule of an end mark, whatever its seats have done.
use Rattle.std.specs.Prelude.{◌≡◌, ◌⊎◌, ℕ, ◌+◌, [], ◌∷◌, Option, Some, None}
use mathlib.Core.Option.{some}
use lib.ListN.{get_elem?}
use Rattle.atomic_table.specs.Table.{State}
use Rattle.fuse_reply.specs.declared.sight.Sight.{Sight}
use Rattle.fuse_reply.specs.declared.sight.Sight.TheVariants.{Storing, Reading}
use Rattle.fuse_reply.specs.SetOnce.{IsSetOnce}

-- two seats that have read a number have read the same one
abbrev pub OneNumber : Type 0
OneNumber = (s : State (Unit {0}) Sight) (i j m n : ℕ) → IsSetOnce s → get_elem? s.views i ≡ some (Reading (Some m))
    → get_elem? s.views j ≡ some (Reading (Some n)) → m ≡ n

-- a seat that has read a number has read the one that the Seal has set
abbrev pub SetNumber : Type 0
SetNumber = (s : State (Unit {0}) Sight) (i j m n : ℕ) → IsSetOnce s → get_elem? s.views i ≡ some (Storing (Some m))
    → get_elem? s.views j ≡ some (Reading (Some n)) → n ≡ m

-- the word is 0, the Seal has set nothing, and nobody has read a number
abbrev pub IsUnset : State (Unit {0}) Sight → Option ℕ → Type 0
IsUnset s set = (s.words ≡ 0 ∷ []) × (set ≡ None)
    × ((j : ℕ) (known : Option ℕ) → get_elem? s.views j ≡ some (Reading known) → known ≡ None)

-- the word is one more than what the Seal has set, and each reading seat has read nothing or that
abbrev pub IsSetTo : State (Unit {0}) Sight → Option ℕ → ℕ → Type 0
IsSetTo s set n = (s.words ≡ (n + 1) ∷ []) × (set ≡ Some n)
    × ((j : ℕ) (known : Option ℕ) → get_elem? s.views j ≡ some (Reading known) → (known ≡ None) ⊎ (known ≡ Some n))

-- there is no third case
abbrev pub TwoCases : Type 0
TwoCases = (s : State (Unit {0}) Sight) (i : ℕ) (set : Option ℕ) → IsSetOnce s → get_elem? s.views i ≡ some (Storing set)
    → IsUnset s set ⊎ ((n : ℕ) × IsSetTo s set n)
