-- The rule of the word that an end mark is: it is set once, by the one seat that may store, and no seat knows another number.
use Rattle.std.specs.Prelude.{◌≡◌, ◌⊎◌, ℕ, zero, suc, [], ◌∷◌, Option, Some, None}
use mathlib.Core.Option.{some}
use lib.ListN.{get_elem?}
use Rattle.atomic_table.specs.Table.{State, Me}
use Rattle.fuse_reply.specs.declared.sight.Sight.{Sight}
use Rattle.fuse_reply.specs.declared.sight.Sight.TheVariants.{Storing, Reading}

-- what the word tells: nothing while it is 0, and then the number below it
abbrev pub told : ℕ → Option ℕ
told zero = None
told (suc n) = Some n

-- the Seal stands at its own place and knows what the word tells; a reading seat knows nothing, or that
abbrev pub Agrees : (seal word place : ℕ) → Sight → Type 0
Agrees seal word place (Storing known) = (place ≡ seal) × (known ≡ told word)
Agrees seal word place (Reading known) = (known ≡ None) ⊎ (known ≡ told word)

-- there is one word, and what each seat knows fits it
pub record IsSetOnce (s : State (Unit {0}) Sight) : Type 0 where
  pub word : ℕ
  pub words : s.words ≡ word ∷ []
  pub seal : ℕ
  pub each : (place : ℕ) (v : Sight) → get_elem? s.views place ≡ some v → Agrees seal word place v

-- the number that a seat knows
abbrev pub known_of : Sight → Option ℕ
known_of (Storing known) = known
known_of (Reading known) = known

-- a reading seat has read what the word tells, and what it knew before is that
abbrev pub HasRead : Me (Unit {0}) Sight → (word : ℕ) → Me (Unit {0}) Sight → Type 0
HasRead before word after = (after ≡ (Reading (told word), [])) × ((known_of before.0 ≡ None) ⊎ (known_of before.0 ≡ told word))
