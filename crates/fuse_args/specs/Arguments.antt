-- What stands at the front of a body, and the bytes after it: the structs of `fuse.h` field by field.
use Rattle.std.specs.Prelude.{◌≡◌, ◌==◌, ◌+◌, ℕ, List, [], Option, None, Some, option_map, position, length, take, drop}
use Rattle.std.specs.Prelude.{◌*◌, nat_le, if◌then◌else◌}
use Rattle.std.specs.Borrow.{Bor}
use Rattle.fuse_wire.specs.Numbers.{number}
use Rattle.fuse_args.specs.declared.fixed.InitArguments.{InitArguments}

-- A fetch gives what stands at the front and leaves the bytes after it, or gives nothing where nothing whole stands
-- there, and leaves all.
abbrev pub Fetches : {X : Type 0} → Option X → List ℕ → List ℕ → Option (X × List ℕ) → Type 0
Fetches None before after front = (front ≡ None) × (after ≡ before)
Fetches (Some found) before after front = front ≡ Some (found, after)

-- A fetch of bytes that are borrowed from the message.
abbrev pub FetchesSlice : Option (Bor (List ℕ)) → List ℕ → List ℕ → Option (List ℕ × List ℕ) → Type 0
FetchesSlice found = Fetches (option_map (λ slice. slice.now) found)

-- a part of fixed size: its fields, and the bytes after it; none where it is not all there
abbrev pub fixed : {X : Type 0} → ℕ → (List ℕ → X) → List ℕ → Option (X × List ℕ)
fixed size fields bytes = if nat_le size (length bytes) then Some (fields bytes, drop size bytes) else None

-- a name: the bytes in front of the least zero byte, and the bytes after that zero; none where no byte is zero
abbrev pub name_at : List ℕ → Option (List ℕ × List ℕ)
name_at bytes = option_map (λ zero_at. (take zero_at bytes, drop (zero_at + 1) bytes)) (position (λ byte. byte == 0) bytes)

-- all bytes, where there are exactly so many
abbrev pub exactly : ℕ → List ℕ → Option (List ℕ × List ℕ)
exactly size bytes = if length bytes == size then Some (bytes, []) else None

-- the first bytes, where there are so many
abbrev pub at_least : ℕ → List ℕ → Option (List ℕ × List ℕ)
at_least size bytes = if nat_le size (length bytes) then Some (take size bytes, []) else None

-- so many rows of 16 bytes (`struct fuse_forget_one`), and the bytes after them; none where they are not all there
abbrev pub rows_at : ℕ → List ℕ → Option (List ℕ × List ℕ)
rows_at count = fixed (16 * count) (λ bytes. take (16 * count) bytes)

-- INIT: major4 minor4 max_readahead4 flags4, then flags2 4 _44 (`struct fuse_init_in`); only the first 16 bytes must be
-- there, and one that is missing after them is zero
abbrev pub init_fields : List ℕ → InitArguments
init_fields b = record {
  major = number b 0 4;
  minor = number b 4 4;
  max_readahead = number b 8 4;
  flags = number b 12 4;
  flags2 = number b 16 4;
}

abbrev pub init_at : List ℕ → Option (InitArguments × List ℕ)
init_at bytes = if nat_le 16 (length bytes) then Some (init_fields bytes, drop 64 bytes) else None

-- a part that is one number of 8 bytes: FORGET's nlookup8, RENAME's newdir8, LINK's oldnodeid8, INTERRUPT's unique8
-- (`struct fuse_forget_in`, `fuse_rename_in`, `fuse_link_in`, `fuse_interrupt_in`)
abbrev pub u64_first : List ℕ → Option (ℕ × List ℕ)
u64_first = fixed 8 (λ b. number b 0 8)

-- CUSE_INIT: 64 bytes, as `fuser` has it, where `struct cuse_init_in` has 16; none is read
abbrev pub cuse_init_at : List ℕ → Option (Unit {0} × List ℕ)
cuse_init_at = fixed 64 (λ b. tt)
