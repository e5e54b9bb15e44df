use Rattle.std.proofs.Common.{rules}
use Rattle.fuse_line.proofs.Keeps.{splits_door, splits_inner}
use Rattle.fuse_line.proofs.line.Line.split.Goals as goal

pub another-seat-requires-clause-rule : goal.another-seat-requires-clause-rule
another-seat-requires-clause-rule g c = splits_door g.T.Class.is_inner _ _

pub another-seat-requires-else-door-clause-rule : goal.another-seat-requires-else-door-clause-rule
another-seat-requires-else-door-clause-rule g c = splits_inner g.T.Class.is_inner _ _ (search rules)
