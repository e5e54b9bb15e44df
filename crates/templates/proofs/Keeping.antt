-- That what is denied has the answer that the promise allows.
use Rattle.std.proofs.Common.{◌≡◌, ℕ, Bool, Result, refl, subst, sym, true}
use Rattle.fuse_header.specs.declared.request.Request.{Request}
use Rattle.fuse_request.specs.Call.{Call}
use Rattle.fuse_reply.specs.Answer.{IsAnswer}
use Rattle.fuse_reply.specs.Answer.Answer.{Error}
use Rattle.fuse_reply.specs.Door.{DoorSeen}
use Rattle.fuse_reply.specs.Frame.{reply}
use Rattle.fuse_reply.specs.declared.door.NoDoor.{NoDoor}
use Rattle.fuse_reply.specs.declared.out.Out.{Out}
use Rattle.fuse_reply.specs.declared.out.Out.TheVariants.{Frame}
use Rattle.fuse_wire.specs.ErrorNumbers.{EACCES}
use Rattle.fuse_dispatch.specs.OwedMessage.{Answers}
use Rattle.fuse_dispatch.specs.Promise.{MayAnswer}
use Rattle.fuse_dispatch.proofs.Answering.{Answered-error}
use Rattle.templates.specs.KeeperOnly.{IsDeniedOr}

pub denied : {F : Type 0} {may_answer : MayAnswer F} {fs : F} {request : Request} {c : Call} {id : ℕ} {door : Result DoorSeen NoDoor} {out : Out}
    (kept : Bool) (below : Type 0) → kept ≡ true → (IsDeniedOr kept below (Error EACCES) → may_answer fs request c (Error EACCES))
    → IsAnswer (Error EACCES) → out ≡ Frame (reply id (Error EACCES)) → Answers may_answer fs request c id door out
denied kept below is allows whole frame =
    Answered-error EACCES whole.0 whole.1 (allows (subst (λ (k : Bool). IsDeniedOr k below (Error EACCES)) (sym is) refl)) frame
