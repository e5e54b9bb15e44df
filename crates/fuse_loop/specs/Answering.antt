-- On which conditions a message is answered, what its answer is, and when its reply may come later.
use Rattle.std.specs.Prelude.{◌≡◌, ◌==◌, ◌↔◌, ℕ, List, Bool, false, Result, Ok, Err, IsOk, IfOk, if◌then◌else◌}
use Rattle.std.proofs.Common.{◌∙◌, ap, sym}
use Rattle.atomic_table.specs.Seated.{TableId}
use Rattle.fuse_header.specs.Header.{header}
use Rattle.fuse_header.specs.Opcode.{FUSE_DESTROY}
use Rattle.fuse_header.specs.declared.header.Header.{Header}
use Rattle.fuse_reply.specs.Door.{DoorSeen}
use Rattle.fuse_reply.specs.declared.door.NoDoor.{NoDoor}
use Rattle.fuse_reply.specs.declared.door.NoDoor.TheVariants.{Shut}
use Rattle.fuse_reply.specs.declared.out.Out.{Out}
use Rattle.fuse_reply.specs.declared.out.Out.TheVariants.{Frame, Note, Deferred}
use Rattle.fuse_core.specs.OnePerMessage.{Owing}
use Rattle.fuse_core.specs.Step.{StandsFor}
use Rattle.fuse_core.specs.declared.state.Job.{Job}
use Rattle.fuse_loop.specs.Incoming.{Incoming, IsBroken, incoming, incoming_by}
use Rattle.fuse_loop.specs.Incoming.Incoming.{Destroy}
use Rattle.fuse_loop.specs.Progress.{IsPrompt}

-- the message has a good header, and is no DESTROY
abbrev pub IsRequest : List ℕ → Type 0
IsRequest m = (h : Header) × (header m ≡ Ok h) × ((h.opcode == FUSE_DESTROY) ≡ false)

-- a request is no DESTROY
pub request-is-no-destroy : (m : List ℕ) → IsRequest m → ¬ (incoming m ≡ Destroy)
request-is-no-destroy m (h, good, other) is =
    let no : Incoming.Request ≡ Destroy = sym (ap incoming_by good ∙ ap (λ (b : Bool). if b then Destroy else Incoming.Request) other) ∙ is in
    absurd (let bad : ⊥ = cc in bad)

-- there is no door, since no reply comes later, exactly where none may; and a door is one to this line, for the message of this number
abbrev pub DoorFits : (defers : Bool) → (line : TableId) → (seq : ℕ) → Result DoorSeen NoDoor → Type 0
DoorFits defers line seq door = ((door ≡ Err Shut) ↔ (defers ≡ false)) × IfOk door (λ d. (d.seq ≡ seq) × (d.pass.line ≡ line))

-- a mark comes only where there is a door, and stands for the message
abbrev pub MayComeLater : Result DoorSeen NoDoor → (seq : ℕ) → (m : List ℕ) → Out → Type 0
MayComeLater door seq m (Deferred number id) = IsOk door × StandsFor seq m (Deferred number id)
MayComeLater door seq m (Frame f) = Unit {0}
MayComeLater door seq m (Note id mark) = Unit {0}

-- what is owed, to a message whose header is good, and goes out at once where no reply comes later
abbrev pub answering : Owing → (defers : Bool) → Owing
answering owed defers seq m out = owed seq m out × (defers ≡ false → IsPrompt out) × ¬ (IsBroken m)

-- a message with its number, as a job
abbrev pub job_of : (seq : ℕ) → (m : List ℕ) → Job
job_of seq m = record { seq = seq; message = m }
