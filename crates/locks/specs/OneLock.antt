-- A filesystem with one lock, for which its callers wait.
use Rattle.std.specs.Prelude.{◌≡◌, ◌⊎◌, ℕ, Bool, true, false, Result, Ok, Err}
use Rattle.fuse_wire.specs.ErrorNumbers.{EAGAIN, EDEADLK, EINTR, ENOLCK}
use Rattle.fuse_wire.specs.Flags.{FUSE_POSIX_LOCKS}
use Rattle.fuse_wire.specs.declared.flags.init_flags.InitFlags.{InitFlags}
use Rattle.fuse_config.specs.Setters.{add_capabilities}
use Rattle.fuse_request.specs.Call.{Call}
use Rattle.fuse_request.specs.Call.Call.{Flush, Interrupt, SetLk}
use Rattle.fuse_reply.specs.Answer.{Answer}
use Rattle.fuse_reply.specs.Answer.Answer.{Empty, Error}
use Rattle.fuse_reply.specs.Door.{DoorSeen}
use Rattle.fuse_reply.specs.Frame.{reply}
use Rattle.fuse_reply.specs.declared.door.NoDoor.{NoDoor}
use Rattle.fuse_reply.specs.declared.door.NoDoor.TheVariants.{Shut, Starved}
use Rattle.fuse_reply.specs.declared.out.Out.{Out}
use Rattle.fuse_reply.specs.declared.out.Out.TheVariants.{Frame}
use Rattle.fuse_dispatch.specs.Defaults.{default_answer, default_mark}
use Rattle.fuse_dispatch.specs.OwedMessage.{IsPutOff}
use Rattle.fuse_dispatch.specs.Promise.{Promise}

-- the kernel sends the calls for locks, in place of keeping them itself
abbrev pub posix_locks : InitFlags
posix_locks = record { 0 = FUSE_POSIX_LOCKS }

-- how a call for the lock fails: it does not wait for one that is held; or it would, and nobody could give the lock up
-- meanwhile, or no more can wait; or it waits, and is interrupted
abbrev pub MayFail : (sleep : Bool) → Answer → Type 0
MayFail false a = a ≡ Error EAGAIN
MayFail true a = (a ≡ Error EDEADLK) ⊎ (a ≡ Error ENOLCK) ⊎ (a ≡ Error EINTR)

-- FLUSH is done, and an interrupt of what does not wait here is to come again; all else is answered by default
abbrev pub MayHave : Call → Answer → Type 0
MayHave (SetLk ino fh owner start end typ pid sleep) a = (a ≡ Empty) ⊎ MayFail sleep a
MayHave (Flush ino fh owner) a = Empty ≡ a
MayHave (Interrupt target) a = Error EAGAIN ≡ a
MayHave c a = default_answer c ≡ a

-- every kernel is accepted, and asked for the calls for locks where it offers them, and for nothing else; an interrupt may be honoured;
-- nothing happens when the session is over
abbrev pub promise : {F : Type 0} → Promise F
promise = record {
  may_init = λ old request before result new after.
      (result ≡ Ok tt) × (after ≡ (add_capabilities posix_locks before).0) × (new ≡ old);
  may_answer = λ fs request call a. MayHave call a;
  may_honour = λ fs request target. Unit {0};
  may_note = λ fs request call mark. mark ≡ default_mark;
  may_destroy = λ old new. new ≡ old;
  defers = true;
}

-- what comes of waiting for the lock: it is held from now on; the reply has no door, since nobody else is served meanwhile or for want
-- of memory; or the reply is put off
abbrev pub ComesOfWaiting : (id : ℕ) → Result DoorSeen NoDoor → Out → Type 0
ComesOfWaiting id door out =
    (out ≡ Frame (reply id Empty))
    ⊎ ((door ≡ Err Shut) × (out ≡ Frame (reply id (Error EDEADLK))))
    ⊎ ((door ≡ Err Starved) × (out ≡ Frame (reply id (Error ENOLCK))))
    ⊎ IsPutOff door id out
