-- That what a reply was spent into by an answer, or by the want of memory for it, is the frame for its token.
use Rattle.std.proofs.Common.{◌≡◌, subst, ℕ}
use Rattle.fuse_reply.specs.Answer.{Answer, IsAnswer}
use Rattle.fuse_reply.specs.Late.{IsFrameFor}
use Rattle.fuse_reply.specs.Reply.{RepliesWith}
use Rattle.fuse_reply.specs.declared.out.Out.{Out}
use Rattle.fuse_reply.proofs.LateReplies.{frame_for_replies}

pub answered_or_starved : (id token : ℕ) (a : Answer) (out : Out) → id ≡ token → RepliesWith id a out → IsAnswer a → IsFrameFor token out
answered_or_starved id token a out same replies in_range =
    subst (λ (n : ℕ). IsFrameFor n out) same (frame_for_replies id a out replies in_range)
