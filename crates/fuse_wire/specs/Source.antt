-- Sources of messages: what one call of `receive` does.
use Rattle.std.specs.Prelude.{◌≡◌, ◌≤◌, ◌++◌, ℕ, [], ◌∷◌, List, Option, IfSome, option_map, take}
use Rattle.fuse_wire.specs.Faults.{Rose}
use Rattle.fuse_wire.specs.declared.consts.TheConstants.{BUFFER_SIZE}
use Rattle.fuse_wire.specs.declared.source.Received.{Received}
use Rattle.fuse_wire.specs.declared.source.Received.TheVariants.{Message, Gone, Retry, Failed as Unreceived}

-- the turns still to come, each the bytes of one message, where the source tells them, and how often it has failed
pub record SourceState : Type 0 where
  pub turns : Option (List (List ℕ))
  pub faults : ℕ

-- these turns were taken from the front
pub record Takes (taken : List (List ℕ)) (before after : SourceState) : Type 0 where
  pub turns : before.turns ≡ option_map (λ left. taken ++ left) after.turns
  pub faults : before.faults ≤ after.faults

-- the message that a turn gives: as much of it as the buffer holds
abbrev pub message : List ℕ → List ℕ
message turn = take BUFFER_SIZE turn

-- the next turn was taken, and its message is the first n bytes of the buffer
pub record TakesMessage (n : ℕ) (before after : SourceState) (buffer : List ℕ) : Type 0 where
  pub turn : List ℕ
  pub taken : Takes (turn ∷ []) before after
  pub fits : n ≤ BUFFER_SIZE
  pub bytes : take n buffer ≡ message turn

-- nothing is left, where the source tells it
abbrev pub NothingLeft : SourceState → Type 0
NothingLeft s = IfSome s.turns (λ left. left ≡ [])

-- the source failed in this stretch, and counted it; of the turns this says nothing
abbrev pub SourceFailed : SourceState → SourceState → Type 0
SourceFailed before after = (before.faults ≤ after.faults) × Rose before.faults after.faults

-- what one receive does, by its answer
abbrev pub Receives : Received → SourceState → SourceState → List ℕ → Type 0
Receives (Message n) before after buffer = TakesMessage n before after buffer
Receives Gone before after buffer = NothingLeft before × Takes [] before after
Receives Retry before after buffer = Takes [] before after
Receives Unreceived before after buffer = SourceFailed before after
