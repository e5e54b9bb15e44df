-- What a failed write leaves in a writer of std.
use Rattle.std.proofs.Common.{◌≤◌, ℕ, List, [], Option, None, Some, Result, Ok, Err, length, take, sym, ◌∙◌, append-nil, arith}
use Rattle.std.specs.Io.{WritesAtMost}
use Rattle.std.specs.Io.KnownBytes.{Appends, Keeps, WriteAppends}
use Rattle.std.proofs.KnownBytes.{Appends-kept, Keeps-refl, Keeps-trans}

-- known bytes that stay have nothing put after them
appends_none : (a b : Option (List ℕ)) → Keeps a b → Appends a b []
appends_none None b kept = tt
appends_none (Some x) None kept = absurd kept
appends_none (Some x) (Some y) kept = kept ∙ sym (append-nil x)

-- a write, and then a flush, put a front of the piece
pub front_flushed : {E : Type 0} (r : Result ℕ E) (piece : List ℕ) (before mid after : Option (List ℕ)) → WritesAtMost r piece
    → WriteAppends before mid r piece → Keeps mid after → (n : ℕ) × (n ≤ length piece) × Appends before after (take n piece)
front_flushed (Ok n) piece before mid after most bytes kept = (n, most, Appends-kept before mid after (take n piece) bytes kept)
front_flushed (Err e) piece before mid after most bytes kept = (0, omega arith, appends_none before after (Keeps-trans before mid after bytes kept))

-- a write puts a front of the piece
pub front_written : {E : Type 0} (r : Result ℕ E) (piece : List ℕ) (before after : Option (List ℕ)) → WritesAtMost r piece
    → WriteAppends before after r piece → (n : ℕ) × (n ≤ length piece) × Appends before after (take n piece)
front_written r piece before after most bytes = front_flushed r piece before after after most bytes (Keeps-refl after)
