-- What ACCESS asks: the 32 bits that are sent, read as a number with a sign.
use Rattle.std.specs.Prelude.{ℤ, Bool}
use Rattle.std.specs.Int.{w32, int_bit_and}
use Rattle.std.specs.Ordering.{int_eq}

-- whether every bit of what is asked is in the mask
abbrev pub has_access : ℤ → ℤ → Bool
has_access mask asked = int_eq (int_bit_and w32 mask asked) asked
