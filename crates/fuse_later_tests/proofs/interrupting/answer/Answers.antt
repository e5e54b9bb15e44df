-- What the reply was spent into is the frame of its token.
use Rattle.std.proofs.Common.{◌∙◌, ap, ℕ}
use Rattle.fuse_reply.specs.Answer.Answer.{Error}
use Rattle.fuse_reply.specs.Frame.{reply}
use Rattle.fuse_reply.specs.declared.out.Out.TheVariants.{Frame}
use Rattle.fuse_reply.proofs.LateReplies.{frame_for}
use Rattle.fuse_later_tests.proofs.interrupting.answer.Goals as goal

pub send_or_retire-ended-requires : goal.send_or_retire-ended-requires
send_or_retire-ended-requires g c =
    frame_for c.reply-reply.result.1.id.0 (Error c.args.error) c.error.result
    (c.error.ensures.reply ∙ ap (λ (n : ℕ). Frame (reply n (Error c.args.error))) c.reply-reply.ensures.id) c.error.ensures.answer
