-- The generated messages as a source gives them, and what a store keeps of what they come to.
use Rattle.std.specs.Prelude.{◌≡◌, ◌^◌, ◌++◌, ℕ, Bool, List, [], ◌∷◌, Some, None, length, filter, nat_le, decimal, codes}
use Rattle.std.specs.List.{concat, AllByRecursion}
use Rattle.fuse_wire.specs.Faults.{counted}
use Rattle.fuse_wire.specs.Frames.{IsFrame, frames}
use Rattle.fuse_wire.specs.Numbers.{number}
use Rattle.fuse_wire.specs.Sink.{Note, SinkState}
use Rattle.fuse_wire.specs.Source.{SourceState}
use Rattle.fuse_wire.specs.declared.source.Received.{Received}
use Rattle.fuse_wire.specs.declared.source.Received.TheVariants.{Message, Gone, Retry, Failed}
use Rattle.fuse_wire.specs.declared.sink.Noting.{Noting}
use Rattle.fuse_wire.specs.declared.sink.Noting.TheVariants.{Sent as Noted, Failed as Unnoted}
use Rattle.fuse_wire.specs.declared.sink.Sending.{Sending}
use Rattle.fuse_wire.specs.declared.sink.Sending.TheVariants.{Sent, Absent, Failed as Unsent}
use Rattle.fuse_loop.specs.Progress.{replies}
use Rattle.fuse_hello.specs.declared.summary.Summary.{Summary}

-- a frame whose status, the 4 bytes after its length, is negative in two's complement
abbrev pub is_error : List ℕ → Bool
is_error frame = nat_le (2 ^ 31) (number frame 4 4)

-- what so many messages, these reply frames and so many notes come to
abbrev pub summary_of : (messages : ℕ) (frames : List (List ℕ)) (notes : ℕ) → Summary
summary_of messages frames notes = record {
  messages = messages;
  frames = length frames;
  notes = notes;
  errors = length (filter is_error frames);
  bytes = length (concat frames);
}

-- the line that says so
abbrev pub line : Summary → List ℕ
line s =
    codes "messages " ++ (decimal s.messages ++ (codes " frames " ++ (decimal s.frames ++ (codes " notes " ++ (decimal s.notes
    ++ (codes " errors " ++ (decimal s.errors ++ (codes " bytes " ++ (decimal s.bytes ++ codes "\n")))))))))

-- what a source of these messages, which never fails, tells
abbrev pub messages_told : List (List ℕ) → SourceState
messages_told left = record { turns = Some left; faults = 0 }

-- the first of these messages is given, or none is left
abbrev pub GivesFirst : Received → (before after : List (List ℕ)) → Type 0
GivesFirst (Message n) before after = (m : List ℕ) × (before ≡ m ∷ after)
GivesFirst Gone before after = (before ≡ []) × (after ≡ [])
GivesFirst Retry before after = ⊥
GivesFirst Failed before after = ⊥

-- what a store holds: frames and notes, and how many of them found no memory
pub record Stored : Type 0 where
  pub frames : List (List ℕ)
  pub notes : List Note
  pub starved : ℕ

-- what it tells
abbrev pub stored_told : Stored → SinkState
stored_told store = record {
  frames = Some store.frames;
  notes = Some store.notes;
  tail = None;
  faults = store.starved;
  absences = 0;
  origin = record { bytes = None; faults = 0 };
}

-- What one send does: the frame is kept, or fails where it finds no memory. A store is always there.
abbrev pub SendsStored : Sending → List ℕ → Stored → Stored → Type 0
SendsStored Sent frame before after =
    after ≡ record { frames = before.frames ++ frame ∷ []; notes = before.notes; starved = before.starved }
SendsStored Absent frame before after = ⊥
SendsStored Unsent frame before after =
    after ≡ record { frames = before.frames; notes = before.notes; starved = counted before.starved 1 }

-- what one note does: it is kept, or fails where it finds no memory
abbrev pub NotesStored : Noting → Note → Stored → Stored → Type 0
NotesStored Noted note before after =
    after ≡ record { frames = before.frames; notes = before.notes ++ note ∷ []; starved = before.starved }
NotesStored Unnoted note before after =
    after ≡ record { frames = before.frames; notes = before.notes; starved = counted before.starved 1 }

-- The bytes are whole frames, one after the other; so many of these are replies, of which so many are errors, and the replies
-- are so long together.
pub record IsStored (bytes : List ℕ) (reply_count errors total : ℕ) : Type 0 where
  pub joined : concat (frames bytes) ≡ bytes
  pub each : AllByRecursion IsFrame (frames bytes)
  pub counted : reply_count ≡ length (replies (frames bytes))
  pub failed : errors ≡ length (filter is_error (replies (frames bytes)))
  pub size : total ≡ length (concat (replies (frames bytes)))
