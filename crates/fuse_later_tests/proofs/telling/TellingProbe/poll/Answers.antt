use Rattle.fuse_reply.specs.Answer.Answer.{Poll}
use Rattle.fuse_dispatch.proofs.Answering.{Answered-frame}
use Rattle.fuse_later_tests.proofs.telling.TellingProbe.poll.Goals as goal

pub returns : goal.returns
returns g c = Answered-frame (Poll _) tt c.poll.ensures.answer tt c.poll.ensures.reply
