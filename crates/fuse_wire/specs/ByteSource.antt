-- Streams of bytes to read: what one call of `read` does.
use Rattle.std.specs.Prelude.{◌≡◌, ◌≤◌, ◌++◌, ℕ, [], List, Option, IfSome, option_map, length, take}
use Rattle.fuse_wire.specs.Faults.{Rose}
use Rattle.fuse_wire.specs.declared.byte_source.ByteRead.{ByteRead}
use Rattle.fuse_wire.specs.declared.byte_source.ByteRead.TheVariants.{Got, End, Failed as Unread}

-- the bytes left, where the device tells them, and how often it has failed
pub record ByteSourceState : Type 0 where
  pub bytes : Option (List ℕ)
  pub faults : ℕ

-- these bytes were taken from the front
pub record TakesBytes (taken : List ℕ) (before after : ByteSourceState) : Type 0 where
  pub bytes : before.bytes ≡ option_map (λ left. taken ++ left) after.bytes
  pub faults : before.faults ≤ after.faults

-- no byte is left, where the stream tells it
abbrev pub NoByteLeft : ByteSourceState → Type 0
NoByteLeft s = IfSome s.bytes (λ left. left ≡ [])

-- the stream failed in this stretch, and counted it; of the bytes this says nothing
abbrev pub StreamFailed : ByteSourceState → ByteSourceState → Type 0
StreamFailed before after = (before.faults ≤ after.faults) × Rose before.faults after.faults

-- what one read does, by its answer
abbrev pub Reads : ByteRead → ByteSourceState → ByteSourceState → List ℕ → Type 0
Reads (Got n) before after piece = (1 ≤ n) × (n ≤ length piece) × TakesBytes (take n piece) before after
Reads End before after piece = NoByteLeft before × TakesBytes [] before after
Reads Unread before after piece = StreamFailed before after
