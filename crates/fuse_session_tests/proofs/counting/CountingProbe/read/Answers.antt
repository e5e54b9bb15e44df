use Rattle.fuse_reply.specs.Answer.Answer.{Data}
use Rattle.fuse_dispatch.proofs.Answering.{Answered-replies}
use Rattle.fuse_session_tests.proofs.counting.CountingProbe.read.Goals as goal

pub returns : goal.returns
returns c = Answered-replies (Data _) tt c.data.ensures.answer tt c.data.ensures.replies
