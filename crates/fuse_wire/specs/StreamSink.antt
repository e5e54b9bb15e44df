-- A sink that writes its frames to a stream of bytes.
use Rattle.std.specs.Prelude.{◌≡◌, ◌≤◌, ◌<◌, ◌++◌, ℕ, Bool, true, false, [], List, Option, None, Some, option_map, length, take, drop}
use Rattle.std.specs.List.{concat, AllByRecursion}
use Rattle.fuse_wire.specs.Faults.{Rose, counted}
use Rattle.fuse_wire.specs.Frames.{frames, IsFrame}
use Rattle.fuse_wire.specs.Sink.{SinkState, Tail, IsTornFrom}
use Rattle.fuse_wire.specs.Sink.Tail.{Whole, Torn}
use Rattle.fuse_wire.specs.ByteSink.{ByteSinkState, PutsBytes}

-- the bytes that stand after those that were there at first
abbrev pub bytes_since : Option (List ℕ) → Option (List ℕ) → Option (List ℕ)
bytes_since None now = None
bytes_since (Some first) now = option_map (drop (length first)) now

-- what stands after the whole frames
abbrev pub torn_part : List ℕ → List ℕ
torn_part bytes = drop (length (concat (frames bytes))) bytes

-- how the stream ends: with a whole frame until a write has failed, and then with these bytes of one more
abbrev pub tail_of : (broken : Bool) → (torn : List ℕ) → Tail
tail_of false torn = Whole
tail_of true torn = Torn torn

-- the frames that stand there
abbrev pub frames_since : Option (List ℕ) → Option (List ℕ) → Option (List (List ℕ))
frames_since first now = option_map frames (bytes_since first now)

-- how the stream ends there
abbrev pub tail_since : (broken : Bool) → Option (List ℕ) → Option (List ℕ) → Option Tail
tail_since broken first now = option_map (λ bytes. tail_of broken (torn_part bytes)) (bytes_since first now)

-- what the sink tells, where its stream stood so when it was made and stands so now, a write has failed or none has, and so many
-- sends were refused without a write
abbrev pub stream_sink_told : ByteSinkState → ByteSinkState → (broken : Bool) → ℕ → SinkState
stream_sink_told origin now broken refused = record {
  frames = frames_since origin.bytes now.bytes;
  notes = None;
  tail = tail_since broken origin.bytes now.bytes;
  faults = counted now.faults refused;
  absences = 0;
  origin = origin;
}

-- some bytes of a frame from its front, and not all
pub record IsTorn (torn : List ℕ) : Type 0 where
  pub frame : List ℕ
  pub whole : IsFrame frame
  pub part : IsTornFrom frame torn

-- How the stream below a sink stands: at its end are the sink's frames, joined, and after a write that failed a part of one
-- more. While no write has failed it counts no fault but the stream's.
pub record Stands (sink : SinkState) (stream : ByteSinkState) (broken : Bool) : Type 0 where
  pub sent : List (List ℕ)
  pub torn : List ℕ
  pub each : AllByRecursion IsFrame sent
  pub told : sink.frames ≡ option_map (λ first. sent) sink.origin.bytes
  pub tail : sink.tail ≡ option_map (λ first. tail_of broken torn) sink.origin.bytes
  pub bytes : stream.bytes ≡ option_map (λ first. first ++ (concat sent ++ torn)) sink.origin.bytes
  pub whole : broken ≡ false → torn ≡ []
  pub part : IsTorn torn
  pub cause : broken ≡ true → Rose sink.origin.faults stream.faults
  pub faults : sink.origin.faults ≤ stream.faults
  pub counts : broken ≡ false → sink.faults ≤ stream.faults

-- the piece was written, or its front, by a write that failed
abbrev pub WritesAll : Bool → List ℕ → ByteSinkState → ByteSinkState → Type 0
WritesAll true piece before after = PutsBytes piece before after
WritesAll false piece before after =
    (count : ℕ) × (count < length piece) × PutsBytes (take count piece) before after × Rose before.faults after.faults
