-- Messages of a source that tells nothing.
use Rattle.std.proofs.Common.{◌≡◌, ◌≤◌, ℕ, List, None, length, take, sym, refl, arith}
use Rattle.std.proofs.lemmas.List.{take_all, length-take-le}
use Rattle.fuse_wire.specs.Source.{SourceState, TakesMessage}
use Rattle.fuse_wire.specs.declared.consts.TheConstants.{BUFFER_SIZE}

-- a source that tells nothing and never fails
abbrev pub untold : SourceState
untold = record { turns = None; faults = 0 }

-- what is at the front of a list is a whole prefix of that length, and no longer than any greater one
pub take-again : (n m : ℕ) (xs : List ℕ) → n ≤ m → length xs ≡ m → take n xs ≡ take m (take n xs)
take-again n m xs fits long = sym (take_all m (take n xs) (omega (arith, fits, length-take-le n xs (omega (arith, fits, long)))))

-- the front of a buffer is a message that it took
pub takes-front : (n : ℕ) (buffer : List ℕ) → n ≤ BUFFER_SIZE → length buffer ≡ BUFFER_SIZE → TakesMessage n untold untold buffer
takes-front n buffer fits long = record {
  turn = take n buffer;
  taken = record { turns = refl; faults = omega arith };
  fits = fits;
  bytes = take-again n BUFFER_SIZE buffer fits long;
}
