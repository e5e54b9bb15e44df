-- That what comes of waiting for the lock is allowed.
use Rattle.std.proofs.Common.{ℕ, Result, inl, inr, arith}
use Rattle.fuse_request.specs.Call.{Call}
use Rattle.fuse_header.specs.declared.request.Request.{Request}
use Rattle.fuse_reply.specs.Answer.Answer.{Empty, Error}
use Rattle.fuse_reply.specs.Door.{DoorSeen}
use Rattle.fuse_reply.specs.declared.door.NoDoor.{NoDoor}
use Rattle.fuse_reply.specs.declared.out.Out.{Out}
use Rattle.fuse_dispatch.specs.Kind.{IsOfKind}
use Rattle.fuse_dispatch.specs.OwedMessage.{Answers}
use Rattle.fuse_dispatch.specs.Promise.{MayAnswer}
use Rattle.fuse_dispatch.proofs.Answering.{Answered-error, Answered-frame}
use Rattle.fuse_wire.specs.ErrorNumbers.{EDEADLK, ENOLCK}
use Rattle.locks.specs.OneLock.{ComesOfWaiting}

-- where the promise allows the call to be done, or to fail by either error
pub Answers-waiting : {F : Type 0} {may_answer : MayAnswer F} {fs : F} {request : Request} {c : Call} {id : ℕ}
    {door : Result DoorSeen NoDoor} {out : Out}
    → IsOfKind c Empty → may_answer fs request c Empty
    → may_answer fs request c (Error EDEADLK) → may_answer fs request c (Error ENOLCK)
    → ComesOfWaiting id door out → Answers may_answer fs request c id door out
Answers-waiting kind done alone full (inl is) = Answered-frame Empty kind tt done is
Answers-waiting kind done alone full (inr (inl shut)) = Answered-error EDEADLK (omega arith) (omega arith) alone shut.1
Answers-waiting kind done alone full (inr (inr (inl starved))) = Answered-error ENOLCK (omega arith) (omega arith) full starved.1
Answers-waiting kind done alone full (inr (inr (inr put_off))) = inr put_off
