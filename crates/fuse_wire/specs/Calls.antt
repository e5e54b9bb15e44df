-- Calls of a device in memory that fails at some of them: they are numbered from 1, those that fail too, up to the last number of a u64.
use Rattle.std.specs.Prelude.{◌==◌, ℕ, Bool, List}
use Rattle.std.specs.List.{list_any}
use Rattle.fuse_wire.specs.Faults.{counted}

-- the number of the next call, after so many
abbrev pub next_call : ℕ → ℕ
next_call calls = counted calls 1

-- whether the next call is listed
abbrev pub is_listed : List ℕ → ℕ → Bool
is_listed listed calls = list_any (λ number. number == next_call calls) listed
