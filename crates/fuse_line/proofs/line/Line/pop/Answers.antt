use Rattle.std.proofs.Common.{rules}
use Rattle.fuse_line.proofs.Keeps.{pops}
use Rattle.fuse_line.proofs.Alone.{settled_where_none, tells}
use Rattle.fuse_line.proofs.line.Line.pop.Goals as goal

pub pop_as-popped-requires-clause-rule : goal.pop_as-popped-requires-clause-rule
pop_as-popped-requires-clause-rule g c = (pops g.T.Class.is_inner _ _ (search rules), tells g.T.Class.is_inner _ _)

pub returns-clause-settled : goal.returns-clause-settled
returns-clause-settled g c = settled_where_none g.T.Class.is_inner _ _ _ c.pop_as-popped.result c.pop_as-popped.ensures.rule
