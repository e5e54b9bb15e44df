-- The greatest power of ten that is at most a number.
use Rattle.std.proofs.Common.{◌≡◌, ℕ, zero, suc, ◌*◌, ◌/◌, ◌^◌, ◌≤◌, ◌<◌, ◌∙◌, ◌⊎◌, inl, inr, refl, arith}
use Rattle.std.proofs.lemmas.Grind.{common_steps}
use Rattle.fuse_config.specs.Setters.{power_up_to}

-- it is the greatest one tried, where that is small enough
pub power_up_to-here : (most n : ℕ) → 10 ^ most ≤ n → power_up_to most n ≡ 10 ^ most
unfolding power_up_to
power_up_to-here zero n h = refl
power_up_to-here (suc most) n h = grind (arith, common_steps)

-- and else it is one of the others
power_up_to-less : (most n : ℕ) → n < 10 ^ suc most → power_up_to (suc most) n ≡ power_up_to most n
unfolding power_up_to
power_up_to-less most n h = grind (arith, common_steps)

-- where a power is too great, the one below it is tried
pub power_up_to-next : (least power n most : ℕ) → 0 < n → n < power → power ≡ 10 ^ most → least ≡ power_up_to most n →
    (less : ℕ) × (power / 10 ≡ 10 ^ less) × (least ≡ power_up_to less n)
power_up_to-next least power n zero some great is same = absurd (omega (arith, is))
power_up_to-next least power n (suc most) some great is same =
    let above : n < 10 ^ suc most = grind (arith, is) in
    (most, grind (arith, is), same ∙ power_up_to-less most n above)

-- it is a power of ten, at most the number, and the next power is above it
pub power_up_to-greatest : (most n : ℕ) → 0 < n → n < 10 * 10 ^ most →
    (exponent : ℕ) × (power_up_to most n ≡ 10 ^ exponent) × (10 ^ exponent ≤ n) × (n < 10 * 10 ^ exponent)
unfolding power_up_to
power_up_to-greatest zero n some below = (0, refl, omega (arith, some), below)
power_up_to-greatest (suc most) n some below =
    elim (one_or_other n (10 ^ suc most)) [
      | inl less ↦
          let shorter : n < 10 * 10 ^ most = grind (arith, less) in
          let there = power_up_to-greatest most n some shorter in
          (there.0, power_up_to-less most n less ∙ there.1, there.2, there.3)
      | inr more ↦ (suc most, power_up_to-here (suc most) n more, more, below)
    ]
  where
    one_or_other : (n power : ℕ) → (n < power) ⊎ (power ≤ n)
    one_or_other n power = grind arith
