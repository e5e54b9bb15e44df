-- The powers above this one are too great.
use Rattle.std.proofs.Common.{◌≡◌, ℕ, ◌^◌}
use Rattle.fuse_config.specs.Setters.{power_of_ten_below, power_up_to}
use Rattle.fuse_config.proofs.kernel_config.power_of_ten_below.Given as goal

abbrev pub invariant-loop-power : goal.invariant-loop-power
invariant-loop-power l = (most : ℕ) × (l.power ≡ 10 ^ most) × (power_of_ten_below l.number ≡ power_up_to most l.number)

abbrev pub decreases-loop-power : goal.decreases-loop-power
decreases-loop-power l = l.power
