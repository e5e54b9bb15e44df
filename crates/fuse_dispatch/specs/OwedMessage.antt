-- What a message after the handshake is owed.
use Rattle.std.specs.Prelude.{◌≡◌, ◌⊎◌, ◌==◌, ℕ, List, IsTrue, Bool, true, false, Result, Ok, Err, refl, if◌then◌else◌}
use Rattle.std.proofs.Common.{sym, subst}
use Rattle.fuse_wire.specs.ErrorNumbers.{ENOMEM}
use Rattle.fuse_request.specs.Call.{Call}
use Rattle.fuse_request.specs.Call.Call.{Interrupt, Poll}
use Rattle.fuse_header.specs.Header.{header, header_fields, body, request_of}
use Rattle.fuse_header.specs.Opcode.{FUSE_DESTROY}
use Rattle.fuse_request.specs.Decoding.{operation}
use Rattle.fuse_header.specs.declared.header.Header.{Header}
use Rattle.fuse_header.specs.declared.error.RequestError.{RequestError}
use Rattle.fuse_header.specs.declared.request.Request.{Request}
use Rattle.fuse_reply.specs.Answer.{Answer, IsAnswer}
use Rattle.fuse_reply.specs.Answer.Answer.{Empty, Error}
use Rattle.fuse_reply.specs.Door.{DoorSeen}
use Rattle.fuse_reply.specs.Reply.{RepliesWith}
use Rattle.fuse_reply.specs.Frame.{reply}
use Rattle.fuse_reply.specs.declared.door.NoDoor.{NoDoor}
use Rattle.fuse_reply.specs.declared.out.Out.{Out}
use Rattle.fuse_reply.specs.declared.out.Out.TheVariants.{Frame, Note, Deferred}
use Rattle.fuse_dispatch.specs.declared.access.Terms.{Terms}
use Rattle.fuse_dispatch.specs.Kind.{IsOfKind}
use Rattle.fuse_dispatch.specs.Promise.{Promise, MayAnswer, MayHonour}
use Rattle.fuse_loop.specs.Incoming.{incoming, incoming_by, id_of}
use Rattle.fuse_loop.specs.Incoming.Incoming.{Destroy, Request as IsRequest}
use Rattle.fuse_dispatch.specs.Verdict.{Verdict, verdict, verdict_by, serving, admitted_operation}
use Rattle.fuse_dispatch.specs.Verdict.Verdict.{Broken, Ends, Fixed, Forgets, Calls}

-- the filesystem's promise allows this answer to the call
pub record Allowed {F : Type 0} (may_answer : MayAnswer F) (fs : F) (request : Request) (c : Call) (a : Answer) : Type 0 where
  pub kind : IsOfKind c a
  pub whole : IsAnswer a
  pub allowed : may_answer fs request c a

-- the reply of an answer that is allowed, or of ENOMEM where that answer is too long to be held without memory
pub record Answered {F : Type 0} (may_answer : MayAnswer F) (fs : F) (request : Request) (c : Call) (id : ℕ) (out : Out) : Type 0 where
  pub answer : Answer
  pub allowed : Allowed may_answer fs request c answer
  pub replies : RepliesWith id answer out

-- the reply was put off: it has a door, and what goes out is the door's mark, with the request's id
pub record IsPutOff (door : Result DoorSeen NoDoor) (id : ℕ) (out : Out) : Type 0 where
  pub through : DoorSeen
  pub is_door : door ≡ Ok through
  pub mark : out ≡ Deferred through.seq (record { 0 = id })

-- what a method gives back: the reply of an answer that is allowed, or, where the reply has a door, the mark of one that comes later
abbrev pub Answers : {F : Type 0} → MayAnswer F → F → Request → Call → (id : ℕ) → Result DoorSeen NoDoor → Out → Type 0
Answers may_answer fs request c id door out = Answered may_answer fs request c id out ⊎ IsPutOff door id out

-- this is an interrupt that is honoured: the promise allows it, and what goes out is a note of the target
abbrev pub Honours : {F : Type 0} → MayHonour F → F → Request → (target id : ℕ) → Out → Type 0
Honours may_honour fs request target id out = may_honour fs request target × (out ≡ Note (record { 0 = id }) target)

-- what `interrupt` gives back: the reply of an error that is allowed, or the note of an interrupt that it may honour
abbrev pub AnswersInterrupt : {F : Type 0} → MayAnswer F → MayHonour F → F → Request → (target id : ℕ) → Out → Type 0
AnswersInterrupt may_answer may_honour fs request target id out =
    Answered may_answer fs request (Interrupt target) id out ⊎ Honours may_honour fs request target id out

-- the same of any call, of which an interrupt alone may be honoured
abbrev pub HonoursCall : {F : Type 0} → MayHonour F → F → Request → Call → (id : ℕ) → Out → Type 0
HonoursCall may_honour fs request (Interrupt target) id out = Honours may_honour fs request target id out
HonoursCall may_honour fs request c id out = ⊥

-- a POLL, whether or not the kernel asks to be told of news
abbrev pub IsPoll : Call → Type 0
IsPoll (Poll ino fh kh events flags) = Unit {0}
IsPoll c = ⊥

-- an answer that is allowed; or ENOMEM where no memory was to be had for a poll's notifier; or, where replies may come later,
-- the mark of one, with the message's number; or the note of an interrupt that may be honoured
abbrev pub OwedCall : {F : Type 0} → Promise F → F → Request → Call → (seq id : ℕ) → Out → Type 0
OwedCall promise fs request c seq id out =
    Answered promise.may_answer fs request c id out
    ⊎ (IsPoll c × (out ≡ Frame (reply id (Error ENOMEM))))
    ⊎ (IsTrue promise.defers × (out ≡ Deferred seq (record { 0 = id })))
    ⊎ HonoursCall promise.may_honour fs request c id out

-- what a request may be owed, by its verdict, its message's number and its id
abbrev pub Owes : Type 1
Owes = Request → Verdict → (seq id : ℕ) → Out → Type 0

-- by its verdict: nothing where it is broken, an empty reply where it ends the run, the reply of the error that is fixed, a note
-- with a mark that is allowed, or what its call is owed
abbrev pub OwedBy : {F : Type 0} → Promise F → F → Owes
OwedBy promise fs request (Broken e) seq id out = ⊥
OwedBy promise fs request Ends seq id out = out ≡ Frame (reply id Empty)
OwedBy promise fs request (Fixed errno) seq id out = out ≡ Frame (reply id (Error errno))
OwedBy promise fs request (Forgets c) seq id out =
    (mark : ℕ) × promise.may_note fs request c mark × (out ≡ Note (record { 0 = id }) mark)
OwedBy promise fs request (Calls c) seq id out = OwedCall promise fs request c seq id out

-- what a message is owed is what its request is owed by its verdict
abbrev pub OwedMessage : Owes → Terms → (seq : ℕ) → (m : List ℕ) → Out → Type 0
OwedMessage owes agreed seq m out = owes (request_of (header_fields m)) (verdict agreed m) seq (id_of m) out

abbrev pub OwedByPromise : {F : Type 0} → Promise F → F → Terms → (seq : ℕ) → (m : List ℕ) → Out → Type 0
OwedByPromise promise fs = OwedMessage (OwedBy promise fs)

-- where the header says DESTROY, the verdict is that the run ends
ends-destroy : (agreed : Terms) (r : Result Header RequestError) (rest : List ℕ)
    → incoming_by r ≡ Destroy → verdict_by agreed r rest ≡ Ends
ends-destroy agreed (Err e) rest is = absurd (let no : ⊥ = cc in no)
ends-destroy agreed (Ok h) rest is = by_test (h.opcode == FUSE_DESTROY) is where
  by_test : (destroy : Bool) → (if destroy then Destroy else IsRequest) ≡ Destroy
      → (if destroy then Ends else serving h.nodeid.0 (admitted_operation agreed.rule h (operation agreed.granted.0 h.opcode rest))) ≡ Ends
  by_test true is = refl
  by_test false is = absurd (let no : ⊥ = cc in no)

-- DESTROY is owed an empty reply
pub OwedMessage-destroy : (owes : Owes) → ((request : Request) (seq id : ℕ) → owes request Ends seq id (Frame (reply id Empty)))
    → (agreed : Terms) (seq : ℕ) (m : List ℕ) → incoming m ≡ Destroy
    → OwedMessage owes agreed seq m (Frame (reply (id_of m) Empty))
OwedMessage-destroy owes owes_end agreed seq m is =
    subst (λ (v : Verdict). owes (request_of (header_fields m)) v seq (id_of m) (Frame (reply (id_of m) Empty)))
    (sym (ends-destroy agreed (header m) (body m) is)) (owes_end (request_of (header_fields m)) seq (id_of m))

-- and nothing else
pub OwedMessage-destroy-alone : (owes : Owes)
    → ((request : Request) (seq id : ℕ) (out : Out) → owes request Ends seq id out → out ≡ Frame (reply id Empty))
    → (agreed : Terms) (seq : ℕ) (m : List ℕ) (out : Out) → incoming m ≡ Destroy
    → OwedMessage owes agreed seq m out → out ≡ Frame (reply (id_of m) Empty)
OwedMessage-destroy-alone owes end_alone agreed seq m out is owed =
    end_alone (request_of (header_fields m)) seq (id_of m) out
    (subst (λ (v : Verdict). owes (request_of (header_fields m)) v seq (id_of m) out) (ends-destroy agreed (header m) (body m) is) owed)
