use Rattle.fuse_dispatch.proofs.Answering.{Answered-error}
use Rattle.std.proofs.Common.{lit<}
use Rattle.fuse_session_tests.proofs.counting.CountingProbe.getattr.Goals as goal

pub returns : goal.returns
returns c = Answered-error 5 (lit< tt) (lit< tt) tt c.unanswered.ensures
