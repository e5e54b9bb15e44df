-- The turns of a source in memory, one after another.
use Rattle.std.proofs.Common.{◌≡◌, ℕ, min, List, ◌∷◌, length, take, refl, ap, ◌∙◌, arith}
use Rattle.std.proofs.lemmas.List.{take_min}
use Rattle.fuse_wire.specs.Source.{TakesMessage}
use Rattle.fuse_wire.specs.Turns.{turns_told}
use Rattle.fuse_wire.specs.declared.memory_source.Turn.{Turn}
use Rattle.fuse_wire.specs.declared.memory_source.Turn.TheVariants.{Message}
use Rattle.fuse_wire.specs.declared.consts.TheConstants.{BUFFER_SIZE}

-- as many bytes as are there and as a limit allows are those in front of the limit
take-within : (n limit : ℕ) (xs : List ℕ) → n ≡ min (length xs) limit → take n xs ≡ take limit xs
take-within n limit xs count =
    let least : n ≡ min limit (length xs) = omega arith in
    ap (λ m. take m xs) least ∙ take_min limit xs

-- the first turn, a message, was taken, and put into the front of a buffer as far as it fits
pub TakesMessage-turn : (bytes : List ℕ) (left : List Turn) (failed n size : ℕ) (buffer : List ℕ) →
    size ≡ BUFFER_SIZE → n ≡ min (length bytes) size → take n buffer ≡ take n bytes →
    TakesMessage n (turns_told (record { left = Message bytes ∷ left; failed = failed })) (turns_told (record { left = left; failed = failed })) buffer
TakesMessage-turn bytes left failed n size buffer sized count front =
    record {
      turn = bytes;
      taken = record { turns = refl; faults = omega arith };
      fits = omega arith;
      bytes = front ∙ take-within n size bytes count ∙ ap (λ limit. take limit bytes) sized;
    }
