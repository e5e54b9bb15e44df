-- The turns of a source in memory.
use Rattle.std.specs.Prelude.{◌≡◌, ℕ, List, [], ◌∷◌, Some, length, min}
use Rattle.fuse_wire.specs.Faults.{counted}
use Rattle.fuse_wire.specs.Source.{SourceState}
use Rattle.fuse_wire.specs.declared.consts.TheConstants.{BUFFER_SIZE}
use Rattle.fuse_wire.specs.declared.memory_source.Turn.{Turn}
use Rattle.fuse_wire.specs.declared.memory_source.Turn.TheVariants.{Message, Retry, Fail}
use Rattle.fuse_wire.specs.declared.source.Received.{Received}
use Rattle.fuse_wire.specs.declared.source.Received.TheVariants.{Message as Received_message, Gone, Retry as Again, Failed}

-- the messages of turns, in order: a Retry and a Fail have none
abbrev pub messages_of : List Turn → List (List ℕ)
messages_of [] = []
messages_of (Message bytes ∷ turns) = bytes ∷ messages_of turns
messages_of (Retry ∷ turns) = messages_of turns
messages_of (Fail ∷ turns) = messages_of turns

-- a source in memory: the turns still to come, and how many Fail turns came
pub record TurnsLeft : Type 0 where
  pub left : List Turn
  pub failed : ℕ

-- what it tells
abbrev pub turns_told : TurnsLeft → SourceState
turns_told source = record { turns = Some (messages_of source.left); faults = source.failed }

-- What one receive does where these turns are left, and so many Fail turns came before: it answers as the first turn says, and
-- leaves those after it. A Fail alone is counted.
abbrev pub TakesTurn : List Turn → ℕ → Received → TurnsLeft → Type 0
TakesTurn [] failed answer after = (answer ≡ Gone) × (after ≡ record { left = []; failed = failed })
TakesTurn (Message bytes ∷ left) failed answer after =
    (answer ≡ Received_message (min (length bytes) BUFFER_SIZE)) × (after ≡ record { left = left; failed = failed })
TakesTurn (Retry ∷ left) failed answer after = (answer ≡ Again) × (after ≡ record { left = left; failed = failed })
TakesTurn (Fail ∷ left) failed answer after = (answer ≡ Failed) × (after ≡ record { left = left; failed = counted failed 1 })
