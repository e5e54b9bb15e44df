-- A stream of bytes to write, in memory.
use Rattle.std.specs.Prelude.{◌≡◌, ◌++◌, ℕ, false, List, Some, length, take, min}
use Rattle.std.specs.Bool.{MatchBool}
use Rattle.fuse_wire.specs.Faults.{counted}
use Rattle.fuse_wire.specs.Calls.{next_call, is_listed}
use Rattle.fuse_wire.specs.ByteSink.{ByteSinkState}
use Rattle.fuse_wire.specs.declared.byte_sink.ByteWrite.{ByteWrite}
use Rattle.fuse_wire.specs.declared.byte_sink.ByteWrite.TheVariants.{Wrote, Failed}

-- the bytes written, the most that a write takes, how many writes there were, the numbers of those that fail, how many of these
-- came, and how many others found no memory
pub record BytesHeld : Type 0 where
  pub bytes : List ℕ
  pub step : ℕ
  pub calls : ℕ
  pub listed : List ℕ
  pub reached : ℕ
  pub starved : ℕ

-- what it tells
abbrev pub bytes_held_told : BytesHeld → ByteSinkState
bytes_held_told stream = record { bytes = Some stream.bytes; faults = counted stream.reached stream.starved }

-- after one more write, with these bytes held, and so many listed writes reached and others starved
abbrev pub wrote_once : BytesHeld → List ℕ → ℕ → ℕ → BytesHeld
wrote_once stream bytes reached starved = record {
  bytes = bytes;
  step = stream.step;
  calls = next_call stream.calls;
  listed = stream.listed;
  reached = reached;
  starved = starved;
}

-- what one write does: it fails where it is listed or finds no memory, and else takes as much of the piece as the step allows
abbrev pub WritesMemory : ByteWrite → List ℕ → BytesHeld → BytesHeld → Type 0
WritesMemory (Wrote n) piece before after =
    (is_listed before.listed before.calls ≡ false) × (n ≡ min (length piece) before.step)
    × (after ≡ wrote_once before (before.bytes ++ take n piece) before.reached before.starved)
WritesMemory Failed piece before after =
    MatchBool (is_listed before.listed before.calls)
    (after ≡ wrote_once before before.bytes (counted before.reached 1) before.starved)
    (after ≡ wrote_once before before.bytes before.reached (counted before.starved 1))
