use Rattle.std.proofs.Common.{rules}
use Rattle.fuse_line.proofs.Keeps.{merges}
use Rattle.fuse_line.proofs.line.Line.join.Goals as goal

pub absorb-requires-clause-rule : goal.absorb-requires-clause-rule
absorb-requires-clause-rule g c = merges g.T.Class.is_inner _ _ _ _ (search rules)
