use Rattle.std.proofs.Common.{◌≡◌}
use Rattle.fuse_line.proofs.line.Line.push_when_free.Given as goal

abbrev pub invariant-loop : goal.invariant-loop
invariant-loop g l = (l.left ≡ l.fn.item) × (l.pass.line ≡ l.fn.pass.line) × (l.pass.hand ≡ l.fn.pass.hand)
