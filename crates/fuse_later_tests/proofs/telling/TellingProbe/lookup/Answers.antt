use Rattle.fuse_reply.specs.Answer.Answer.{Error}
use Rattle.fuse_dispatch.proofs.Answering.{Answered-frame}
use Rattle.fuse_later_tests.proofs.telling.TellingProbe.lookup.Goals as goal

pub returns : goal.returns
returns g c = Answered-frame (Error c.answer_to.result) tt c.error.ensures.answer tt c.error.ensures.reply
