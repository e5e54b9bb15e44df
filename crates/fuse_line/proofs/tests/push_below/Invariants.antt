use Rattle.std.proofs.Common.{◌≡◌}
use Rattle.fuse_line.specs.declared.hand.Kind.TheVariants.{First}
use Rattle.fuse_line.proofs.tests.push_below.Given as goal

abbrev pub invariant-loop-number : goal.invariant-loop-number
invariant-loop-number g l = (l.pass.line ≡ l.line) × (l.pass.hand.kind ≡ First)
