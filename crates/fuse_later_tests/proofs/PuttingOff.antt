-- What comes of a reply that can't be put off answers its call, where each answer is allowed.
use Rattle.std.proofs.Common.{◌≡◌, ℕ, Result, lit<}
use Rattle.fuse_request.specs.Call.{Call}
use Rattle.fuse_header.specs.declared.request.Request.{Request}
use Rattle.fuse_reply.specs.Answer.Answer.{Error}
use Rattle.fuse_reply.specs.Door.{DoorSeen}
use Rattle.fuse_reply.specs.Frame.{reply}
use Rattle.fuse_reply.specs.declared.door.NoDoor.{NoDoor}
use Rattle.fuse_reply.specs.declared.out.Out.{Out}
use Rattle.fuse_reply.specs.declared.out.Out.TheVariants.{Frame}
use Rattle.fuse_dispatch.specs.OwedMessage.{Answers}
use Rattle.fuse_dispatch.proofs.Answering.{Answered-error}
use Rattle.fuse_wire.specs.ErrorNumbers.{EIO}
use Rattle.fuse_testing.specs.Probing.{IsAnswered}
use Rattle.fuse_later_tests.specs.PuttingOff.{any_answer}

pub fault_answers : {F : Type 0} {fs : F} {request : Request} {c : Call} {id : ℕ} {door : Result DoorSeen NoDoor} {out : Out}
    → out ≡ Frame (reply id (Error EIO)) → Answers {F = F} any_answer fs request c id door out
fault_answers {door = door} fault = Answered-error {door = door} EIO (lit< tt) (lit< tt) tt fault

-- and so it does in a filesystem for tests
pub fault_is_answered : {request : Request} {c : Call} {id : ℕ} {door : Result DoorSeen NoDoor} {out : Out}
    → out ≡ Frame (reply id (Error EIO)) → IsAnswered (λ c a. Unit {0}) request c id door out
fault_is_answered {door = door} fault = Answered-error {door = door} EIO (lit< tt) (lit< tt) tt fault
