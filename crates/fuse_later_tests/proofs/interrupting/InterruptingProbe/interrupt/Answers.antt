-- One that names no request that waits is to come again.
use Rattle.std.proofs.Common.{inl}
use Rattle.fuse_reply.specs.Answer.Answer.{Error}
use Rattle.fuse_wire.specs.ErrorNumbers.{EAGAIN}
use Rattle.fuse_later_tests.proofs.interrupting.InterruptingProbe.interrupt.Goals as goal

pub returns : goal.returns
returns g c = inl (record {
  answer = Error EAGAIN;
  allowed = record { kind = tt; whole = c.again.ensures.answer; allowed = tt };
  replies = inl c.again.ensures.reply;
})
