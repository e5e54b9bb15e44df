use Rattle.fuse_line.proofs.Alone.{idle}
use Rattle.fuse_line.proofs.laws.others_are_idle_while_none_is_counted.Goals as goal

pub returns : goal.returns
returns g c = idle g.T.Class.is_inner
