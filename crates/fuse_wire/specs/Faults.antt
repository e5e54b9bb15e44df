-- Counts that never fall, and stay at the last value that a u64 has.
use Rattle.std.specs.Prelude.{ℕ, ◌<◌, ◌+◌, ◌-◌, ◌^◌, min}

-- the last value of a u64
abbrev pub last_count : ℕ
last_count = 2 ^ 64 - 1

-- a count that was n, after so many more
abbrev pub counted : ℕ → ℕ → ℕ
counted n more = min (n + more) last_count

-- greater at the end than at the start, or at its last value at the end
abbrev pub Rose : ℕ → ℕ → Type 0
Rose before after = after < last_count → before < after
