-- What came of a request that is served.
use Rattle.std.specs.Prelude.{◌⊎◌, ℕ, Result}
use Rattle.fuse_request.specs.Operation.{plain}
use Rattle.fuse_request.specs.declared.operation.Operation.{Operation}
use Rattle.fuse_header.specs.declared.request.Request.{Request}
use Rattle.fuse_reply.specs.Door.{DoorSeen}
use Rattle.fuse_reply.specs.declared.door.NoDoor.{NoDoor}
use Rattle.fuse_reply.specs.declared.out.Out.{Out}
use Rattle.fuse_loop.specs.Progress.{IsPrompt}
use Rattle.fuse_dispatch.specs.OwedMessage.{IsPutOff, Owes}
use Rattle.fuse_dispatch.specs.Verdict.{Verdict, served}
use Rattle.fuse_dispatch.specs.Verdict.Verdict.{Calls}
use Rattle.fuse_dispatch.specs.declared.asked.Asked.{Asked}

-- the filesystem is asked, and answers
abbrev pub IsCalled : Verdict → Type 0
IsCalled (Calls c) = Unit {0}
IsCalled v = ⊥

-- it goes out at once, and is what the request is owed, whatever the number of its message
abbrev pub ComesAtOnce : Owes → Request → Verdict → (id : ℕ) → Out → Type 0
ComesAtOnce owes request v id out = IsPrompt out × ((seq : ℕ) → owes request v seq id out)

-- it does; or the reply of a call was put off, through this door
abbrev pub ComesBy : Owes → Result DoorSeen NoDoor → Request → Verdict → (id : ℕ) → Out → Type 0
ComesBy owes door request v id out = ComesAtOnce owes request v id out ⊎ (IsCalled v × IsPutOff door id out)

-- the operation of this request came to this, by this door
abbrev pub IsOwed : Owes → Result DoorSeen NoDoor → Asked → Operation → Out → Type 0
IsOwed owes door asked operation out =
    ComesBy owes door asked.request (served asked.node.0 (plain operation)) asked.id.0 out
