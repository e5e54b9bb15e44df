-- What filesystems of tests promise.
use Rattle.std.specs.Prelude.{◌≡◌, ℕ, Result}
use Rattle.fuse_request.specs.Call.{Call}
use Rattle.fuse_request.specs.Call.Call.{Lookup, GetAttr, Read, SetLk, Interrupt, Poll}
use Rattle.fuse_header.specs.declared.request.Request.{Request}
use Rattle.fuse_reply.specs.Answer.{Answer}
use Rattle.fuse_reply.specs.Door.{DoorSeen}
use Rattle.fuse_reply.specs.declared.door.NoDoor.{NoDoor}
use Rattle.fuse_reply.specs.declared.out.Out.{Out}
use Rattle.fuse_dispatch.specs.Defaults.{default_answer}
use Rattle.fuse_dispatch.specs.OwedMessage.{Answers, AnswersInterrupt}

-- which answer a call may have
abbrev pub Allows : Type 1
Allows = Call → Answer → Type 0

-- their own answer to a call that they may answer themselves, and the default answer to each other one
abbrev pub own_or_default : (own : Allows) → Allows
own_or_default own (Lookup parent name) a = own (Lookup parent name) a
own_or_default own (GetAttr ino fh) a = own (GetAttr ino fh) a
own_or_default own (Read ino fh offset size flags lock_owner) a = own (Read ino fh offset size flags lock_owner) a
own_or_default own (SetLk ino fh lock_owner start end typ pid sleep) a = own (SetLk ino fh lock_owner start end typ pid sleep) a
own_or_default own (Interrupt target) a = own (Interrupt target) a
own_or_default own (Poll ino fh kh events flags) a = own (Poll ino fh kh events flags) a
own_or_default own c a = default_answer c ≡ a

-- what they give back to the call, by an answer of their own
abbrev pub IsAnswered : (own : Allows) → Request → Call → (id : ℕ) → Result DoorSeen NoDoor → Out → Type 0
IsAnswered own request c id door out = Answers {F = Unit {0}} (λ fs r c' a. own c' a) tt request c id door out

-- what they give back to an interrupt, which they may honour
abbrev pub IsInterrupted : (own : Allows) → Request → (target id : ℕ) → Out → Type 0
IsInterrupted own request target id out =
    AnswersInterrupt {F = Unit {0}} (λ fs r c a. own c a) (λ fs r t. Unit {0}) tt request target id out
