use Rattle.std.proofs.Common.{rules}
use Rattle.fuse_line.proofs.Keeps.{pushes}
use Rattle.fuse_line.proofs.Alone.{tells}
use Rattle.fuse_line.proofs.line.Line.push.Goals as goal

pub push_as-requires-clause-rule : goal.push_as-requires-clause-rule
push_as-requires-clause-rule g c = (pushes g.T.Class.is_inner _ _ _ _ (search rules), tells g.T.Class.is_inner _ _)
