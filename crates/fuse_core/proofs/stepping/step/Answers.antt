use Rattle.std.proofs.Common.{sym, subst}
use Rattle.fuse_core.specs.Balanced.{Balanced}
use Rattle.fuse_core.specs.Step.{MayHappen}
use Rattle.fuse_core.proofs.Balancing.{Happens-balanced}
use Rattle.fuse_core.proofs.stepping.step.Goals as goal

pub returns-then-branch-clause-balanced : goal.returns-then-branch-clause-balanced
returns-then-branch-clause-balanced c balanced =
    let before = c.in_ok-next.next in
    let after = c.apply.new.state in
    let happens = subst (MayHappen before c.args.event.now after) c.if-branch.true c.in_ok-apply.ensures in
    Happens-balanced before c.args.event.now after happens (subst Balanced (sym c.in_ok-next.ensures) balanced)
