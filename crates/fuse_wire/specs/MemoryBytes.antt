-- A stream of bytes to read, in memory.
use Rattle.std.specs.Prelude.{◌≡◌, ℕ, true, false, List, [], Some, length, drop, min}
use Rattle.fuse_wire.specs.Faults.{counted}
use Rattle.fuse_wire.specs.Calls.{next_call, is_listed}
use Rattle.fuse_wire.specs.ByteSource.{ByteSourceState}
use Rattle.fuse_wire.specs.declared.byte_source.ByteRead.{ByteRead}
use Rattle.fuse_wire.specs.declared.byte_source.ByteRead.TheVariants.{Got, End, Failed}

-- the bytes left, the most that a read gives, how many reads there were, the numbers of those that fail, and how many have failed
pub record BytesLeft : Type 0 where
  pub left : List ℕ
  pub step : ℕ
  pub calls : ℕ
  pub listed : List ℕ
  pub reached : ℕ

-- what it tells
abbrev pub bytes_left_told : BytesLeft → ByteSourceState
bytes_left_told stream = record { bytes = Some stream.left; faults = stream.reached }

-- after one more read, with these bytes left and so many listed reads reached
abbrev pub read_once : BytesLeft → List ℕ → ℕ → BytesLeft
read_once stream left reached =
    record { left = left; step = stream.step; calls = next_call stream.calls; listed = stream.listed; reached = reached }

-- what one read into a piece of this size does: it fails where it is listed, and else gives as much as the step, the piece and the bytes left allow
abbrev pub ReadsMemory : ByteRead → ℕ → BytesLeft → BytesLeft → Type 0
ReadsMemory (Got n) size before after =
    (is_listed before.listed before.calls ≡ false) × (n ≡ min size (min before.step (length before.left)))
    × (after ≡ read_once before (drop n before.left) before.reached)
ReadsMemory End size before after =
    (is_listed before.listed before.calls ≡ false) × (before.left ≡ []) × (after ≡ read_once before [] before.reached)
ReadsMemory Failed size before after =
    (is_listed before.listed before.calls ≡ true) × (after ≡ read_once before before.left (counted before.reached 1))
