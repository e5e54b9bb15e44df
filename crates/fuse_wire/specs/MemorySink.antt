-- A sink of frames and notes, in memory.
use Rattle.std.specs.Prelude.{◌≡◌, ◌==◌, ◌++◌, ◌∷◌, [], ℕ, List, Option, None, Some, map, if◌then◌else◌, ◌≢◌, ⊤}
use Rattle.std.specs.List.{AllByRecursion}
use Rattle.std.specs.Option.{MatchOption}
use Rattle.fuse_wire.specs.Faults.{counted}
use Rattle.fuse_wire.specs.Calls.{next_call}
use Rattle.fuse_wire.specs.Sink.{Note, SinkState}
use Rattle.fuse_wire.specs.declared.newtypes.RequestId.{RequestId}
use Rattle.fuse_wire.specs.declared.sink.Sending.{Sending}
use Rattle.fuse_wire.specs.declared.sink.Sending.TheVariants.{Sent, Absent, Failed}
use Rattle.fuse_wire.specs.declared.sink.Noting.{Noting}
use Rattle.fuse_wire.specs.declared.sink.Noting.TheVariants.{Sent as Noted, Failed as Unnoted}

-- notes as pairs of numbers
abbrev pub notes_of : List (RequestId × ℕ) → List Note
notes_of notes = map (λ note. (note.0.0, note.1)) notes

-- how the send of this number is answered, where it is listed
abbrev pub answer_at : List (ℕ × Sending) → ℕ → Option Sending
answer_at [] number = None
answer_at (fault ∷ faults) number = if fault.0 == number then Some fault.1 else answer_at faults number

-- no send is listed twice
abbrev pub NumbersDiffer : List (ℕ × Sending) → Type 0
NumbersDiffer [] = ⊤
NumbersDiffer (fault ∷ faults) = AllByRecursion (λ other. other.0 ≢ fault.0) faults × NumbersDiffer faults

-- each send that is listed fails
abbrev pub EachFails : List (ℕ × Sending) → Type 0
EachFails faults = AllByRecursion (λ fault. fault.1 ≢ Sent) faults

-- its frames and notes, how many sends there were, the numbers of those that fail with their answers, how many of these came, how
-- many of them were answered Absent, and how many frames and notes found no memory
pub record FramesHeld : Type 0 where
  pub frames : List (List ℕ)
  pub notes : List Note
  pub calls : ℕ
  pub listed : List (ℕ × Sending)
  pub reached : ℕ
  pub absent : ℕ
  pub starved : ℕ

-- how the next send is answered, where it is listed
abbrev pub next_answer : FramesHeld → Option Sending
next_answer sink = answer_at sink.listed (next_call sink.calls)

-- what it tells
abbrev pub frames_held_told : FramesHeld → SinkState
frames_held_told sink = record {
  frames = Some sink.frames;
  notes = Some sink.notes;
  tail = None;
  faults = counted sink.reached sink.starved;
  absences = sink.absent;
  origin = record { bytes = None; faults = 0 };
}

-- after one more send, with these frames held, and so many frames and notes starved
abbrev pub sent_once : FramesHeld → List (List ℕ) → ℕ → FramesHeld
sent_once sink frames starved = record {
  frames = frames;
  notes = sink.notes;
  calls = next_call sink.calls;
  listed = sink.listed;
  reached = sink.reached;
  absent = sink.absent;
  starved = starved;
}

-- how many sends were answered Absent, after this answer
abbrev pub absent_after : Sending → ℕ → ℕ
absent_after Sent absent = absent
absent_after Absent absent = counted absent 1
absent_after Failed absent = absent

-- after one more send that is listed with this answer
abbrev pub reached_once : FramesHeld → Sending → FramesHeld
reached_once sink answer = record {
  frames = sink.frames;
  notes = sink.notes;
  calls = next_call sink.calls;
  listed = sink.listed;
  reached = counted sink.reached 1;
  absent = absent_after answer sink.absent;
  starved = sink.starved;
}

-- What one send does: where it is listed it is answered so, and else it takes the frame, or fails where it finds no memory.
abbrev pub SendsMemory : Sending → List ℕ → FramesHeld → FramesHeld → Type 0
SendsMemory Sent frame before after =
    (next_answer before ≡ None) × (after ≡ sent_once before (before.frames ++ frame ∷ []) before.starved)
SendsMemory Absent frame before after =
    (next_answer before ≡ Some Absent) × (after ≡ reached_once before Absent)
SendsMemory Failed frame before after =
    MatchOption (next_answer before)
    (after ≡ sent_once before before.frames (counted before.starved 1))
    (λ answer. (answer ≡ Failed) × (after ≡ reached_once before Failed))

-- after one more note, with these notes held, and so many frames and notes starved: a note is no send
abbrev pub noted_once : FramesHeld → List Note → ℕ → FramesHeld
noted_once sink notes starved = record {
  frames = sink.frames;
  notes = notes;
  calls = sink.calls;
  listed = sink.listed;
  reached = sink.reached;
  absent = sink.absent;
  starved = starved;
}

-- what one note does: it is taken, or fails where it finds no memory
abbrev pub NotesMemory : Noting → Note → FramesHeld → FramesHeld → Type 0
NotesMemory Noted note before after = after ≡ noted_once before (before.notes ++ note ∷ []) before.starved
NotesMemory Unnoted note before after = after ≡ noted_once before before.notes (counted before.starved 1)
