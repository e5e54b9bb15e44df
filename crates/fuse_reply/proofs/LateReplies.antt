-- For whoever answers later: that what a reply was spent into is the frame for its request.
use Rattle.std.proofs.Common.{◌≡◌, ℕ, arith, inl, inr, refl, subst, sym}
use Rattle.fuse_wire.specs.ErrorNumbers.{ENOMEM}
use Rattle.fuse_reply.specs.Answer.{Answer, IsAnswer}
use Rattle.fuse_reply.specs.Answer.Answer.{Error}
use Rattle.fuse_reply.specs.Frame.{reply}
use Rattle.fuse_reply.specs.Late.{IsFrameFor}
use Rattle.fuse_reply.specs.Reply.{RepliesWith}
use Rattle.fuse_reply.specs.declared.out.Out.{Out}
use Rattle.fuse_reply.specs.declared.out.Out.TheVariants.{Frame}

-- of an answer
pub frame_for : (id : ℕ) (a : Answer) (out : Out) → out ≡ Frame (reply id a) → IsAnswer a → IsFrameFor id out
frame_for id a out is in_range = subst (IsFrameFor id) (sym is) (record { answer = a; in_range = in_range; is_reply = refl })

-- of an answer, or of the want of memory for it
pub frame_for_replies : (id : ℕ) (a : Answer) (out : Out) → RepliesWith id a out → IsAnswer a → IsFrameFor id out
frame_for_replies id a out (inl is) in_range = frame_for id a out is in_range
frame_for_replies id a out (inr starved) in_range = frame_for id (Error ENOMEM) out starved.1 (omega arith, omega arith)
