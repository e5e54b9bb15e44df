-- What the reply was spent into is the frame of its token.
use Rattle.std.proofs.Common.{◌∙◌, ap, ℕ}
use Rattle.fuse_reply.specs.Answer.Answer.{Empty}
use Rattle.fuse_reply.specs.Frame.{reply}
use Rattle.fuse_reply.specs.declared.out.Out.TheVariants.{Frame}
use Rattle.fuse_reply.proofs.LateReplies.{frame_for}
use Rattle.fuse_workers_tests.proofs.core_tests.queue_late.Goals as goal

pub send_or_retire-requires : goal.send_or_retire-requires
send_or_retire-requires g c =
    frame_for c.reply-reply.result.1.id.0 Empty c.ok.result
    (c.ok.ensures ∙ ap (λ (n : ℕ). Frame (reply n Empty)) c.reply-reply.ensures.id) tt
