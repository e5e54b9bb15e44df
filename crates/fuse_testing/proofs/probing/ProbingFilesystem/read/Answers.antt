use Rattle.fuse_dispatch.proofs.Answering.{Answers-allowed}
use Rattle.fuse_testing.proofs.probing.ProbingFilesystem.read.Goals as goal

pub returns : goal.returns
returns g c = Answers-allowed (λ a allowed. allowed) c.read.ensures
