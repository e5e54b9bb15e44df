-- The first zero byte, as `memchr` finds it.
use Rattle.std.proofs.Common.{◌≡◌, ◌≢◌, ◌==◌, ℕ, Bool, true, false, List, Option, None, Some, length, position, refl}
use Rattle.std.proofs.Common.{arith}
use Rattle.std.specs.List.{position_or_len}
use Rattle.std.proofs.lemmas.Bool.{cond_above, cond_below}
use Rattle.std.proofs.lemmas.List.Sums.{position_or_len_is}
use Rattle.memchr.specs.Find.{IsFirstByte, is_byte}

not_true : (b : Bool) → b ≢ true → b ≡ false
not_true true differs = absurd (differs refl)
not_true false differs = refl

-- what `memchr` gives for a zero byte is the place of the first one
pub position_is_first : (bytes : List ℕ) (r : Option ℕ) → IsFirstByte (is_byte 0) bytes r → r ≡ position (λ byte. byte == 0) bytes
position_is_first bytes None h =
    let length_is : position_or_len (is_byte 0) bytes ≡ length bytes =
    position_or_len_is (is_byte 0) bytes (length bytes) 0 (omega arith) (λ k below. not_true _ (h k (omega arith) below)) (λ no. absurd (omega (arith, no))) in
    cond_above (position_or_len (is_byte 0) bytes) (length bytes) _ None None (omega (arith, length_is)) refl
position_is_first bytes (Some k) h =
    let first = h.0 in
    let place_is : position_or_len (is_byte 0) bytes ≡ k =
    position_or_len_is (is_byte 0) bytes k 0 (omega (arith, first.high)) (λ i below. not_true _ (first.before i (omega arith) below)) (λ below. h.1) in
    rw place_is (cond_below k (length bytes) (Some k) None first.high)
