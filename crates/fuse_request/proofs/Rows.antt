-- The rows of BATCH_FORGET: how many there are, and each at its place.
use Rattle.std.proofs.Common.{◌≡◌, ℕ, zero, suc, ◌+◌, ◌*◌, ◌/◌, ◌<◌, ◌≤◌, List, Some, None, length, refl, ap, arith}
use Rattle.std.proofs.Common.{◌∙◌}
use Rattle.std.specs.Prelude.{slice_get}
use Rattle.fuse_wire.specs.Numbers.{number}
use Rattle.fuse_request.specs.Forgets.{rows_from, rows_in}

rows_from-length : (count at : ℕ) (bytes : List ℕ) → length (rows_from count at bytes) ≡ count
unfolding rows_from
rows_from-length zero at bytes = refl
rows_from-length (suc count) at bytes = ap suc (rows_from-length count (at + 16) bytes)

rows_from-at : (count at place : ℕ) (bytes : List ℕ) → place < count
    → slice_get (rows_from count at bytes) place ≡ Some (number bytes (at + place * 16) 8, number bytes (at + place * 16 + 8) 8)
unfolding rows_from
rows_from-at zero at place bytes below = absurd (omega (arith, below))
rows_from-at (suc count) at zero bytes below =
    let same : at + 0 * 16 ≡ at = omega arith in
    ap (λ (n : ℕ). Some (number bytes n 8, number bytes (n + 8) 8)) (omega (arith, same))
rows_from-at (suc count) at (suc place) bytes below =
    rows_from-at count (at + 16) place bytes (omega (arith, below))
    ∙ ap (λ (n : ℕ). Some (number bytes n 8, number bytes (n + 8) 8)) (omega arith)

rows_from-beyond : (count at place : ℕ) (bytes : List ℕ) → count ≤ place → slice_get (rows_from count at bytes) place ≡ None
unfolding rows_from
rows_from-beyond zero at place bytes beyond = refl
rows_from-beyond (suc count) at zero bytes beyond = absurd (omega (arith, beyond))
rows_from-beyond (suc count) at (suc place) bytes beyond = rows_from-beyond count (at + 16) place bytes (omega (arith, beyond))

-- there are as many rows as whole ones in the bytes
pub rows_in_length : (bytes : List ℕ) → length (rows_in bytes) ≡ length bytes / 16
rows_in_length bytes = rows_from-length (length bytes / 16) 0 bytes

-- the row at a place
pub rows_in_at : (bytes : List ℕ) (place : ℕ) → place < length bytes / 16
    → slice_get (rows_in bytes) place ≡ Some (number bytes (place * 16) 8, number bytes (place * 16 + 8) 8)
rows_in_at bytes place below =
    rows_from-at (length bytes / 16) 0 place bytes below
    ∙ ap (λ (n : ℕ). Some (number bytes n 8, number bytes (n + 8) 8)) (omega arith)

-- no row is after them
pub rows_in_beyond : (bytes : List ℕ) (place : ℕ) → length bytes / 16 ≤ place → slice_get (rows_in bytes) place ≡ None
rows_in_beyond bytes place beyond = rows_from-beyond (length bytes / 16) 0 place bytes beyond
