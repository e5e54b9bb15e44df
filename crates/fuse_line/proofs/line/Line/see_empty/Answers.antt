use Rattle.fuse_line.proofs.Alone.{tells}
use Rattle.fuse_line.proofs.line.Line.see_empty.Goals as goal

pub is_empty_as-requires-clause-rule : goal.is_empty_as-requires-clause-rule
is_empty_as-requires-clause-rule g c = tells g.T.Class.is_inner _ _
