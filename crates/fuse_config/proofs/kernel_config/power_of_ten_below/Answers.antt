-- The powers above this one are too great.
use Rattle.std.proofs.Common.{◌≡◌, ◌∙◌, ◌≤◌, ◌^◌, ℕ, refl, sym, subst}
use Rattle.fuse_config.proofs.PowersOfTen.{power_up_to-here, power_up_to-next}
use Rattle.fuse_config.proofs.kernel_config.power_of_ten_below.Goals as goal

pub loop-power-init : goal.loop-power-init
loop-power-init c = (9, refl, refl)

pub loop-power-preserved : goal.loop-power-preserved
loop-power-preserved c = power_up_to-next _ c.loop-power.power c.args.number c.loop-power.invariant.0 c.requires.least c.loop-power-test.true
    c.loop-power.invariant.1 c.loop-power.invariant.2

pub returns-clause-value : goal.returns-clause-value
returns-clause-value c =
    let most = c.loop-power.invariant.0 in
    let is : c.loop-power.power ≡ 10 ^ most = c.loop-power.invariant.1 in
    is ∙ (sym (power_up_to-here most c.args.number (subst (λ (p : ℕ). p ≤ c.args.number) is c.loop-power-test.false)) ∙ sym c.loop-power.invariant.2)
