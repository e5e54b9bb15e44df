-- Numbers in a message. All of the FUSE ABI's are little-endian here (`fuse.h` has them in the host's order).
use Rattle.std.specs.Prelude.{ℕ, ℤ, zero, suc, ◌+◌, ◌*◌, List, slice_index}
use Rattle.std.specs.Int.{Width, byte_len, cast_signed}

-- the sum of bytes[at + i] * 256 ^ i for i below the width; a byte that is not there counts as 0
unfoldable pub number : List ℕ → ℕ → ℕ → ℕ
number bytes at zero = 0
number bytes at (suc width) = slice_index bytes at + 256 * number bytes (suc at) width

-- the number as two's complement of that width: 2 ^ (8 * width) is taken away where its highest bit is set
abbrev pub signed : Width → List ℕ → ℕ → ℤ
signed w bytes at = cast_signed w (number bytes at (byte_len w))
