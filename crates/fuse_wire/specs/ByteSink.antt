-- Streams of bytes to write: what one call of `write` does.
use Rattle.std.specs.Prelude.{◌≡◌, ◌≤◌, ◌++◌, ℕ, [], List, Option, option_map, length, take}
use Rattle.fuse_wire.specs.Faults.{Rose}
use Rattle.fuse_wire.specs.declared.byte_sink.ByteWrite.{ByteWrite}
use Rattle.fuse_wire.specs.declared.byte_sink.ByteWrite.TheVariants.{Wrote, Failed}

-- the bytes written, where the device tells them, and how often it has failed
pub record ByteSinkState : Type 0 where
  pub bytes : Option (List ℕ)
  pub faults : ℕ

-- these bytes were put at the end
pub record PutsBytes (put : List ℕ) (before after : ByteSinkState) : Type 0 where
  pub bytes : after.bytes ≡ option_map (λ held. held ++ put) before.bytes
  pub faults : before.faults ≤ after.faults

-- what one write does, by its answer
abbrev pub Writes : ByteWrite → List ℕ → ByteSinkState → ByteSinkState → Type 0
Writes (Wrote n) piece before after = (1 ≤ n) × (n ≤ length piece) × PutsBytes (take n piece) before after
Writes Failed piece before after = PutsBytes [] before after × Rose before.faults after.faults
