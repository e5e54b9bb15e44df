-- What the reply was spent into is the frame of its token.
use Rattle.std.proofs.Common.{◌∙◌, ap, ℕ}
use Rattle.fuse_reply.specs.Answer.Answer.{Error}
use Rattle.fuse_reply.specs.Frame.{reply}
use Rattle.fuse_reply.specs.declared.out.Out.TheVariants.{Frame}
use Rattle.fuse_reply.proofs.LateReplies.{frame_for}
use Rattle.fuse_wire.specs.ErrorNumbers.{ENOENT}
use Rattle.fuse_later_tests.proofs.putting_off.PuttingOff.put_off.Goals as goal

pub send_or_retire-ended-requires : goal.send_or_retire-ended-requires
send_or_retire-ended-requires g c =
    frame_for c.reply-reply.result.1.id.0 (Error ENOENT) c.error.result
    (c.error.ensures.reply ∙ ap (λ (n : ℕ). Frame (reply n (Error ENOENT))) c.reply-reply.ensures.id) c.error.ensures.answer
