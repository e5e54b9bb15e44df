-- For whoever writes a filesystem: that what a method answered is allowed.
use Rattle.std.proofs.Common.{◌≡◌, ◌<◌, ◌^◌, ℕ, inl, inr, Result}
use Rattle.fuse_request.specs.Call.{Call}
use Rattle.fuse_header.specs.declared.request.Request.{Request}
use Rattle.fuse_reply.specs.Answer.{Answer, IsAnswer}
use Rattle.fuse_reply.specs.Answer.Answer.{Error}
use Rattle.fuse_reply.specs.Door.{DoorSeen}
use Rattle.fuse_reply.specs.Frame.{reply}
use Rattle.fuse_reply.specs.Reply.{RepliesWith}
use Rattle.fuse_reply.specs.declared.door.NoDoor.{NoDoor}
use Rattle.fuse_reply.specs.declared.out.Out.{Out}
use Rattle.fuse_reply.specs.declared.out.Out.TheVariants.{Frame}
use Rattle.fuse_dispatch.specs.Promise.{MayAnswer}
use Rattle.fuse_dispatch.specs.Kind.{IsOfKind}
use Rattle.fuse_dispatch.specs.OwedMessage.{Answers}

-- the reply came to this answer, which the promise allows
pub Answered-replies : {F : Type 0} {may_answer : MayAnswer F} {fs : F} {request : Request} {c : Call} {id : ℕ} {door : Result DoorSeen NoDoor}
    {out : Out} (a : Answer)
    → IsOfKind c a → IsAnswer a → may_answer fs request c a → RepliesWith id a out → Answers may_answer fs request c id door out
Answered-replies a kind whole allowed replies =
    inl (record { answer = a; allowed = record { kind = kind; whole = whole; allowed = allowed }; replies = replies })

-- the reply is the frame of this answer
pub Answered-frame : {F : Type 0} {may_answer : MayAnswer F} {fs : F} {request : Request} {c : Call} {id : ℕ} {door : Result DoorSeen NoDoor}
    {out : Out} (a : Answer)
    → IsOfKind c a → IsAnswer a → may_answer fs request c a → out ≡ Frame (reply id a) → Answers may_answer fs request c id door out
Answered-frame a kind whole allowed is = Answered-replies a kind whole allowed (inl is)

-- the reply is the frame of this error
pub Answered-error : {F : Type 0} {may_answer : MayAnswer F} {fs : F} {request : Request} {c : Call} {id : ℕ} {door : Result DoorSeen NoDoor}
    {out : Out} (errno : ℕ)
    → 0 < errno → errno < 2 ^ 31 → may_answer fs request c (Error errno) → out ≡ Frame (reply id (Error errno))
    → Answers may_answer fs request c id door out
Answered-error errno positive small allowed is = Answered-frame (Error errno) tt (positive, small) allowed is

-- what a method of another promise gave back, where this one allows all that the other does
pub Answers-allowed : {F F' : Type 0} {may : MayAnswer F} {may' : MayAnswer F'} {fs : F} {fs' : F'} {request : Request} {c : Call} {id : ℕ}
    {door : Result DoorSeen NoDoor} {out : Out}
    → ((a : Answer) → may fs request c a → may' fs' request c a)
    → Answers may fs request c id door out → Answers may' fs' request c id door out
Answers-allowed allows (inl answered) =
    let of = answered.allowed in
    inl (record {
      answer = answered.answer;
      allowed = record { kind = of.kind; whole = of.whole; allowed = allows answered.answer of.allowed };
      replies = answered.replies;
    })
Answers-allowed allows (inr put_off) = inr put_off
