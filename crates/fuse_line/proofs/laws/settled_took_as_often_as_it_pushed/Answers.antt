use Rattle.fuse_line.proofs.Alone.{as_often}
use Rattle.fuse_line.proofs.laws.settled_took_as_often_as_it_pushed.Goals as goal

pub returns : goal.returns
returns g c = as_often g.T.Class.is_inner
