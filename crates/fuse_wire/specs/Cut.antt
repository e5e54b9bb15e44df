-- A stream of messages cut into them: each begins with its length in 4 bytes (`struct fuse_in_header` of `fuse.h`).
use Rattle.std.specs.Prelude.{◌<◌, ◌≤◌, ℕ, zero, suc, List, [], ◌∷◌, length, take, drop, min, max}
use Rattle.fuse_wire.specs.Numbers.{number}
use Rattle.fuse_wire.specs.declared.consts.TheConstants.{BUFFER_SIZE}

-- how long the first message is: its header of 40 bytes, and what its length field says above that, as far as the buffer holds it and bytes are left
abbrev pub first_length : List ℕ → ℕ
first_length bytes = min (length bytes) (min BUFFER_SIZE (max 40 (number bytes 0 4)))

-- the messages in front, at most so many
unfoldable pub cut_in : ℕ → List ℕ → List (List ℕ)
cut_in zero bytes = []
cut_in (suc more) [] = []
cut_in (suc more) (byte ∷ bytes) =
    let whole = byte ∷ bytes in
    take (first_length whole) whole ∷ cut_in more (drop (first_length whole) whole)

-- the messages of a stream
abbrev pub cut : List ℕ → List (List ℕ)
cut bytes = cut_in (length bytes) bytes

-- what each of them is: not empty, and no longer than the buffer
pub record IsMessage (message : List ℕ) : Type 0 where
  pub some : 0 < length message
  pub fits : length message ≤ BUFFER_SIZE
