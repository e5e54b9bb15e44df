use Rattle.fuse_reply.specs.Answer.Answer.{Error}
use Rattle.fuse_dispatch.proofs.Answering.{Answered-frame}
use Rattle.fuse_wire.specs.ErrorNumbers.{ENOSYS}
use Rattle.fuse_testing.proofs.probe.Probe.setlk.Goals as goal

pub returns : goal.returns
returns g c = Answered-frame (Error ENOSYS) tt c.setlk.ensures.answer (g.met.Self.Probe.allows_default _) c.setlk.ensures.reply
