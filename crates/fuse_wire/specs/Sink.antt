-- Sinks of frames and notes: what one call of `send` or `note` does.
use Rattle.std.specs.Prelude.{◌≡◌, ◌≤◌, ◌<◌, ◌++◌, ℕ, [], ◌∷◌, List, Option, None, Some, option_map, length, take}
use Rattle.fuse_wire.specs.Faults.{Rose, counted}
use Rattle.fuse_wire.specs.ByteSink.{ByteSinkState}
use Rattle.fuse_wire.specs.declared.sink.Sending.{Sending}
use Rattle.fuse_wire.specs.declared.sink.Sending.TheVariants.{Sent, Absent, Failed}
use Rattle.fuse_wire.specs.declared.sink.Noting.{Noting}
use Rattle.fuse_wire.specs.declared.sink.Noting.TheVariants.{Sent as Noted, Failed as Unnoted}

-- a request's id, and the mark that the filesystem gave for its forget
abbrev pub Note : Type 0
Note = ℕ × ℕ

-- how a stream of frames ends: with a whole frame, or with these bytes of one whose write failed
pub data Tail : Type 0 where
  Whole : Tail
  Torn : (bytes : List ℕ) → Tail

-- its frames and notes, and how the stream that it writes them to ends, each where it tells it; how often it has failed, and how
-- often of these because what a frame spoke of was not there; and how what it was made over stood then
pub record SinkState : Type 0 where
  pub frames : Option (List (List ℕ))
  pub notes : Option (List Note)
  pub tail : Option Tail
  pub faults : ℕ
  pub absences : ℕ
  pub origin : ByteSinkState

-- these frames and notes were put at the end
pub record Appends (frames : List (List ℕ)) (notes : List Note) (before after : SinkState) : Type 0 where
  pub framed : after.frames ≡ option_map (λ held. held ++ frames) before.frames
  pub noted : after.notes ≡ option_map (λ held. held ++ notes) before.notes
  pub faults : before.faults ≤ after.faults
  pub origin : after.origin ≡ before.origin

-- they were put so, and a stream ends as it did
abbrev pub Puts : List (List ℕ) → List Note → SinkState → SinkState → Type 0
Puts frames notes before after = Appends frames notes before after × (after.tail ≡ before.tail)

-- nothing was put, and the device counted a fault
abbrev pub Refuses : SinkState → SinkState → Type 0
Refuses before after = Appends [] [] before after × Rose before.faults after.faults

-- some bytes of this frame from its front, and not all
abbrev pub IsTornFrom : (frame torn : List ℕ) → Type 0
IsTornFrom frame torn = (length torn < length frame) × (take (length torn) frame ≡ torn)

-- How a stream ends after this frame was refused. Where no write had failed before, this frame's did, and left a part of it. After a
-- write that failed nothing is written.
abbrev pub Tears : (frame : List ℕ) → (before after : Option Tail) → Type 0
Tears frame None after = after ≡ None
Tears frame (Some Whole) None = ⊥
Tears frame (Some Whole) (Some Whole) = ⊥
Tears frame (Some Whole) (Some (Torn torn)) = IsTornFrom frame torn
Tears frame (Some (Torn torn)) after = after ≡ Some (Torn torn)

-- this frame was refused
abbrev pub RefusesFrame : (frame : List ℕ) → SinkState → SinkState → Type 0
RefusesFrame frame before after = Refuses before after × Tears frame before.tail after.tail

-- what one send does, by its answer: just an Absent is counted as one
abbrev pub Sends : Sending → List ℕ → SinkState → SinkState → Type 0
Sends Sent frame before after = Puts (frame ∷ []) [] before after × (after.absences ≡ before.absences)
Sends Absent frame before after = RefusesFrame frame before after × (after.absences ≡ counted before.absences 1)
Sends Failed frame before after = RefusesFrame frame before after × (after.absences ≡ before.absences)

-- what one note does, by its answer
abbrev pub Notes : Noting → Note → SinkState → SinkState → Type 0
Notes Noted note before after = Puts [] (note ∷ []) before after × (after.absences ≡ before.absences)
Notes Unnoted note before after = (Refuses before after × (after.tail ≡ before.tail)) × (after.absences ≡ before.absences)
