-- What the reply was spent into is the frame of its token.
use Rattle.fuse_reply.specs.Answer.Answer.{Data}
use Rattle.fuse_reply_tests.proofs.Answered.{answered_or_starved}
use Rattle.fuse_reply_tests.proofs.deferral_tests.carry_later.Goals as goal

pub send_or_retire-requires : goal.send_or_retire-requires
send_or_retire-requires g c =
    answered_or_starved c.reply-reply.result.0.id c.reply-reply.result.1.id.0 (Data c.args.bytes.now) c.data.result c.reply-reply.ensures.id
    c.data.ensures.replies c.data.ensures.answer
