use Rattle.std.proofs.Common.{◌≡◌}
use Rattle.fuse_line.specs.declared.hand.Kind.TheVariants.{Inner}
use Rattle.fuse_line.proofs.tests.pop_in_order.Given as goal

abbrev pub invariant-loop : goal.invariant-loop
invariant-loop g l = (l.pass.line ≡ l.line) × (l.pass.hand.kind ≡ Inner)
