-- While nothing came, the pass is as it was.
use Rattle.std.proofs.Common.{◌≡◌}
use Rattle.fuse_session.proofs.starting.take.Given as goal

abbrev pub invariant-loop : goal.invariant-loop
invariant-loop g l = (l.pass.line ≡ l.fn.pass.line) × (l.pass.hand ≡ l.fn.pass.hand)
