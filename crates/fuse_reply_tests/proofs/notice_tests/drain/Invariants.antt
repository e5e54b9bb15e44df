-- The pass stays the first of the line.
use Rattle.std.proofs.Common.{◌≡◌}
use Rattle.fuse_line.specs.declared.hand.Kind.TheVariants.{First}
use Rattle.fuse_reply_tests.proofs.notice_tests.drain.Given as goal

abbrev pub invariant-loop : goal.invariant-loop
invariant-loop g l = (l.first.line ≡ l.line) × (l.first.hand.kind ≡ First)
