use Rattle.fuse_line.proofs.Origins.{taken_was_pushed}
use Rattle.fuse_line.proofs.laws.what_was_taken_was_pushed.Goals as goal

pub returns : goal.returns
returns g c = taken_was_pushed g.T.Class.is_inner
