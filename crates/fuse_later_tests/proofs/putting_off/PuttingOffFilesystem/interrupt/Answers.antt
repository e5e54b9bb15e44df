-- An interrupt is refused by ENOSYS.
use Rattle.std.proofs.Common.{inl}
use Rattle.fuse_reply.specs.Answer.Answer.{Error}
use Rattle.fuse_wire.specs.ErrorNumbers.{ENOSYS}
use Rattle.fuse_later_tests.proofs.putting_off.PuttingOffFilesystem.interrupt.Goals as goal

pub returns : goal.returns
returns g c = inl (record {
  answer = Error ENOSYS;
  allowed = record { kind = tt; whole = c.interrupt.ensures.answer; allowed = tt };
  replies = inl c.interrupt.ensures.reply;
})
