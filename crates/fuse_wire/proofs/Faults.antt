-- Counts of faults, one step after another.
use Rattle.std.proofs.Common.{ℕ, ◌≤◌, arith}
use Rattle.fuse_wire.specs.Faults.{Rose}

-- it did not fall, and then rose
pub Rose-after : (a b c : ℕ) → a ≤ b → Rose b c → Rose a c
Rose-after a b c above rose = λ below. omega (arith, rose below)
