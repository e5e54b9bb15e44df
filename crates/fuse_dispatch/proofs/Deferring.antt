-- What a request came to, by a door or at once, is what its message is owed.
use Rattle.std.proofs.Common.{◌≡◌, ◌∙◌, ℕ, Bool, Result, Ok, Err, inl, inr, sym, ap, subst}
use Rattle.atomic_table.specs.Seated.{TableId}
use Rattle.fuse_request.specs.Call.{Call}
use Rattle.fuse_header.specs.declared.request.Request.{Request}
use Rattle.fuse_reply.specs.Door.{DoorSeen}
use Rattle.fuse_reply.specs.declared.door.NoDoor.{NoDoor}
use Rattle.fuse_reply.specs.declared.out.Out.{Out}
use Rattle.fuse_reply.specs.declared.out.Out.TheVariants.{Deferred}
use Rattle.fuse_loop.specs.Answering.{DoorFits}
use Rattle.fuse_dispatch.specs.Asked.{ComesBy}
use Rattle.fuse_dispatch.specs.OwedMessage.{IsPutOff, Owes}
use Rattle.fuse_dispatch.specs.Verdict.{Verdict}
use Rattle.fuse_dispatch.specs.Verdict.Verdict.{Broken, Ends, Fixed, Forgets, Calls}

-- what was put off by a door that fits is the mark of the message's number
put-off-mark : (defers : Bool) (line : TableId) (seq id : ℕ) (door : Result DoorSeen NoDoor) (out : Out)
    → DoorFits defers line seq door → IsPutOff door id out → out ≡ Deferred seq (record { 0 = id })
put-off-mark defers line seq id (Ok d) out fits put_off =
    let is : Ok d ≡ Ok put_off.through = put_off.is_door in
    let same : d ≡ put_off.through = cc in
    put_off.mark ∙ ap (λ number. Deferred number (record { 0 = id })) (sym (ap (λ (x : DoorSeen). x.seq) same) ∙ fits.1.0)
put-off-mark defers line seq id (Err none) out fits put_off =
    absurd (let is : Err none ≡ Ok put_off.through = put_off.is_door in let no : ⊥ = cc in no)

-- it is owed, where each call is owed that mark
pub owed-comes : (owes : Owes) (request : Request) (v : Verdict) (defers : Bool) (line : TableId) (seq id : ℕ) (door : Result DoorSeen NoDoor)
    (out : Out)
    → ((c : Call) → owes request (Calls c) seq id (Deferred seq (record { 0 = id })))
    → DoorFits defers line seq door → ComesBy owes door request v id out → owes request v seq id out
owed-comes owes request v defers line seq id door out later fits (inl at_once) = at_once.1 seq
owed-comes owes request (Calls c) defers line seq id door out later fits (inr put_off) =
    subst (λ (o : Out). owes request (Calls c) seq id o) (sym (put-off-mark defers line seq id door out fits put_off.1)) (later c)
owed-comes owes request (Broken e) defers line seq id door out later fits (inr put_off) = absurd put_off.0
owed-comes owes request Ends defers line seq id door out later fits (inr put_off) = absurd put_off.0
owed-comes owes request (Fixed errno) defers line seq id door out later fits (inr put_off) = absurd put_off.0
owed-comes owes request (Forgets c) defers line seq id door out later fits (inr put_off) = absurd put_off.0

-- what came where there is no door is owed, whatever the number
pub owed-at-once : (owes : Owes) (request : Request) (v : Verdict) (seq id : ℕ) (none : NoDoor) (out : Out)
    → ComesBy owes (Err none) request v id out → owes request v seq id out
owed-at-once owes request v seq id none out (inl at_once) = at_once.1 seq
owed-at-once owes request v seq id none out (inr put_off) =
    absurd (let is : Err none ≡ Ok put_off.1.through = put_off.1.is_door in let no : ⊥ = cc in no)
