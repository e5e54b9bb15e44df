use Rattle.fuse_dispatch.proofs.Answering.{Answered-error}
use Rattle.fuse_wire.specs.ErrorNumbers.{ENOENT}
use Rattle.fuse_later_tests.proofs.telling.TellingProbe.getattr.Goals as goal

pub returns : goal.returns
returns g c = Answered-error ENOENT c.error.ensures.answer.0 c.error.ensures.answer.1 tt c.error.ensures.reply
