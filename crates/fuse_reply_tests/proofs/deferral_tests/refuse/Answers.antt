-- What the reply was spent into is the frame of its token, also where both came back.
use Rattle.std.proofs.Common.{◌≡◌, ◌∙◌, ap, rules, ℕ}
use Rattle.fuse_reply.specs.Answer.Answer.{Empty}
use Rattle.fuse_reply.specs.Frame.{reply}
use Rattle.fuse_reply.specs.Late.{IsFrameFor}
use Rattle.fuse_reply.specs.declared.out.Out.TheVariants.{Frame}
use Rattle.fuse_reply.proofs.LateReplies.{frame_for}
use Rattle.fuse_reply_tests.proofs.CameBack.{came_back}
use Rattle.fuse_reply_tests.proofs.deferral_tests.refuse.Goals as goal

pub send-requires : goal.send-requires
send-requires g c =
    frame_for c.reply-reply.result.1.id.0 Empty c.ok.result
    (c.ok.ensures ∙ ap (λ (n : ℕ). Frame (reply n Empty)) c.reply-reply.ensures.id) tt

pub send_or_retire-requires : goal.send_or_retire-requires
send_or_retire-requires g c =
    let same : c.in-Err-Full.token.id.0 ≡ c.reply-reply.result.1.id.0 = search rules in
    let is : c.in-Err-Full.replied ≡ c.ok.result = search rules in
    let sent : IsFrameFor c.reply-reply.result.1.id.0 c.ok.result = frame_for c.reply-reply.result.1.id.0 Empty c.ok.result
    (c.ok.ensures ∙ ap (λ (n : ℕ). Frame (reply n Empty)) c.reply-reply.ensures.id) tt in
    came_back c.reply-reply.result.1.id.0 c.in-Err-Full.token.id.0 c.ok.result c.in-Err-Full.replied same is sent
