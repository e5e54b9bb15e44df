-- Numbers in messages: what a number is after a list, what it is at most, and how it reads back what was written.
use Rattle.std.proofs.Common.{◌≡◌, ℕ, zero, suc, ◌+◌, ◌*◌, ◌^◌, ◌<◌, ◌/◌, ◌%◌, List, [], ◌∷◌, ◌++◌, length, get_or, refl, ap, sym, ◌∙◌, subst, arith}
use Rattle.std.specs.Int.{Width, w32, w64, byte_len, byte_at, bytes_low_first, to_le_bytes}
use Rattle.std.proofs.Math.Nat.{pow-succ', mul_assoc, div-add-mod, pow-suc, div-div-eq-div-mul, div-one}
use Rattle.std.proofs.lemmas.List.{get_or-append-add}
use Rattle.fuse_wire.specs.Numbers.{number}

-- after a list, it is the number of what stands there
pub number-append_right : (xs ys : List ℕ) (at width : ℕ) → number (xs ++ ys) (length xs + at) width ≡ number ys at width
unfolding number
number-append_right xs ys at zero = refl
number-append_right xs ys at (suc width) =
    let here : get_or (xs ++ ys) (length xs + at) 0 ≡ get_or ys at 0 = get_or-append-add xs ys at 0 in
    let place : suc (length xs + at) ≡ length xs + suc at = omega arith in
    let rest : number (xs ++ ys) (length xs + suc at) width ≡ number ys (suc at) width = number-append_right xs ys (suc at) width in
    cc

-- two parts of a number, the lower first
pub number-split : (bytes : List ℕ) (at low high : ℕ) → number bytes at (low + high) ≡ number bytes at low + 256 ^ low * number bytes (at + low) high
unfolding number
number-split bytes at zero high =
    let width : zero + high ≡ high = omega arith in
    let place : at + zero ≡ at = omega arith in
    let same : number bytes at (zero + high) ≡ number bytes (at + zero) high = cc in
    same ∙ omega arith
number-split bytes at (suc low) high =
    let width : suc low + high ≡ suc (low + high) = omega arith in
    let place : suc at + low ≡ at + suc low = omega arith in
    let opened : number bytes at (suc low + high) ≡ get_or bytes at 0 + 256 * number bytes (suc at) (low + high) = ap (number bytes at) width in
    let rest : number bytes (suc at) (low + high) ≡ number bytes (suc at) low + 256 ^ low * number bytes (suc at + low) high =
    number-split bytes (suc at) low high in
    let moved : number bytes (suc at + low) high ≡ number bytes (at + suc low) high = ap (λ n. number bytes n high) place in
    let moved_product : 256 ^ low * number bytes (suc at + low) high ≡ 256 ^ low * number bytes (at + suc low) high = ap (λ n. 256 ^ low * n) moved in
    let worth : 256 ^ suc low * number bytes (at + suc low) high ≡ 256 * (256 ^ low * number bytes (at + suc low) high) =
    ap (λ n. n * number bytes (at + suc low) high) (pow-succ' 256 low) ∙ mul_assoc 256 (256 ^ low) (number bytes (at + suc low) high) in
    omega (arith, opened, rest, moved_product, worth)

-- below a power, where each byte is below 256
pub number-below : (bytes : List ℕ) (at width : ℕ) → ((i : ℕ) → get_or bytes i 0 < 256) → number bytes at width < 256 ^ width
unfolding number
number-below bytes at zero each = omega arith
number-below bytes at (suc width) each =
    let here : get_or bytes at 0 < 256 = each at in
    let rest : number bytes (suc at) width < 256 ^ width = number-below bytes (suc at) width each in
    omega (arith, pow-succ' 256 width)

-- after a byte
pub number-cons : (x : ℕ) (xs : List ℕ) (at width : ℕ) → number (x ∷ xs) (suc at) width ≡ number xs at width
number-cons x xs at width =
    let place : 1 + at ≡ suc at = omega arith in
    sym (ap (λ n. number (x ∷ xs) n width) place) ∙ number-append_right (x ∷ []) xs at width

-- a byte of a number, by division
pub byte_at_is : (i n : ℕ) → byte_at i n ≡ n / 256 ^ i % 256
byte_at_is zero n = ap (λ m. m % 256) (sym (div-one n))
byte_at_is (suc i) n = refl

-- the low bytes of a quotient give it back
pub number-bytes_low_first : (i width n : ℕ) (rest : List ℕ) → n / 256 ^ i < 256 ^ width → number (bytes_low_first i width n ++ rest) 0 width ≡ n / 256 ^ i
unfolding number
number-bytes_low_first i zero n rest fits = omega arith
number-bytes_low_first i (suc width) n rest fits =
    let next : n / 256 ^ suc i ≡ n / 256 ^ i / 256 = ap (λ m. n / m) (pow-suc 256 i) ∙ sym (div-div-eq-div-mul n (256 ^ i) 256) in
    let low : byte_at i n ≡ n / 256 ^ i % 256 = byte_at_is i n in
    let parts : 256 * (n / 256 ^ i / 256) + n / 256 ^ i % 256 ≡ n / 256 ^ i = div-add-mod (n / 256 ^ i) 256 in
    let below : n / 256 ^ suc i < 256 ^ width = omega (arith, next, parts, fits, pow-succ' 256 width) in
    let moved : number (byte_at i n ∷ (bytes_low_first (suc i) width n ++ rest)) 1 width ≡ number (bytes_low_first (suc i) width n ++ rest) 0 width =
    number-cons _ _ 0 width in
    let rest_is : number (bytes_low_first (suc i) width n ++ rest) 0 width ≡ n / 256 ^ suc i = number-bytes_low_first (suc i) width n rest below in
    omega (arith, next, low, parts, moved, rest_is)

-- the bytes that `to_le_bytes` writes give the number back
pub number-to_le_bytes : (w : Width) (n : ℕ) (rest : List ℕ) → n < 256 ^ byte_len w → number (to_le_bytes w n ++ rest) 0 (byte_len w) ≡ n
number-to_le_bytes w n rest fits =
    let whole : n / 256 ^ 0 ≡ n = div-one n in
    let fits_whole : n / 256 ^ 0 < 256 ^ byte_len w = subst (λ m. m < 256 ^ byte_len w) (sym whole) fits in
    number-bytes_low_first 0 (byte_len w) n rest fits_whole ∙ whole

-- of 4 bytes
pub number-to_le_bytes_4 : (n : ℕ) (rest : List ℕ) → n < 2 ^ 32 → number (to_le_bytes w32 n ++ rest) 0 4 ≡ n
number-to_le_bytes_4 n rest fits = number-to_le_bytes w32 n rest fits

-- of 8 bytes
pub number-to_le_bytes_8 : (n : ℕ) (rest : List ℕ) → n < 2 ^ 64 → number (to_le_bytes w64 n ++ rest) 0 8 ≡ n
number-to_le_bytes_8 n rest fits = number-to_le_bytes w64 n rest fits
