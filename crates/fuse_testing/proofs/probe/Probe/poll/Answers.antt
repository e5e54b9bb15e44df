use Rattle.fuse_reply.specs.Answer.Answer.{Error}
use Rattle.fuse_dispatch.proofs.Answering.{Answered-frame}
use Rattle.fuse_wire.specs.ErrorNumbers.{ENOSYS}
use Rattle.fuse_testing.proofs.probe.Probe.poll.Goals as goal

pub returns : goal.returns
returns g c = Answered-frame (Error ENOSYS) tt c.poll.ensures.answer (g.met.Self.Probe.allows_default _) c.poll.ensures.reply
