-- What was sent is owed, each to another message.
use Rattle.std.specs.Prelude.{◌≡◌, ◌≤◌, ℕ, List, [], ◌∷◌, Some, IsTrue, Bool, length, slice_get}
use Rattle.std.specs.List.{All}
use Rattle.fuse_reply.specs.declared.out.Out.{Out}
use Rattle.fuse_reply.specs.declared.out.Out.TheVariants.{Deferred}
use Rattle.fuse_core.specs.declared.event.Event.{Event}
use Rattle.fuse_core.specs.declared.event.Event.TheVariants.{Receive, Take, Answer, Defer, Push, Send, Own, Late, Notify}
use Rattle.fuse_core.specs.declared.state.WorkerHand.TheVariants.{Asked}
use Rattle.fuse_core.specs.declared.state.Job.{Job}
use Rattle.fuse_core.specs.declared.state.State.{State}
use Rattle.fuse_core.specs.Balanced.{settled}
use Rattle.fuse_core.specs.OnePerMessage.{Owing}
use Rattle.fuse_core.specs.Step.{Happens, Runs, empty}

-- what passes a test is owed
abbrev pub passes : (ℕ → List ℕ → Out → Bool) → Owing
passes test seq m out = IsTrue (test seq m out)

-- what goes out for the job in a hand is owed to its message
abbrev pub OwedInHand : Owing → State → (worker : ℕ) → Out → Type 0
OwedInHand owed s worker out = (asked : Job) → slice_get s.hands worker ≡ Some (Asked asked) → owed asked.seq asked.message out

-- an answer is owed to the message that it answers, and so is the mark of one that comes later
abbrev pub OwedAt : Owing → State → Event → Type 0
OwedAt owed s (Answer worker out) = OwedInHand owed s worker out
OwedAt owed s (Defer worker seq id) = OwedInHand owed s worker (Deferred seq id)
OwedAt owed s (Own m out) = owed (length s.received) m out
OwedAt owed s (Receive m) = Unit {0}
OwedAt owed s (Take worker) = Unit {0}
OwedAt owed s (Push worker) = Unit {0}
OwedAt owed s Send = Unit {0}
OwedAt owed s (Late late) = Unit {0}
OwedAt owed s (Notify f) = Unit {0}

-- each answer among the events is owed, in the state that the events before it lead to
abbrev pub EachOwed : Owing → State → List Event → Type 0
EachOwed owed s [] = Unit {0}
EachOwed owed s (event ∷ events) = OwedAt owed s event × ((next : State) → Happens s event next → EachOwed owed next events)

-- it is owed to the message of that number
abbrev pub OwedToNumber : Owing → (messages : List (List ℕ)) → (seq : ℕ) → Out → Type 0
OwedToNumber owed messages seq out = (m : List ℕ) × (slice_get messages seq ≡ Some m) × owed seq m out

-- What was sent and what comes later are owed to the messages of their numbers, and no number stands there twice.
pub record OwedApart (owed : Owing) (s : State) : Type 0 where
  pub sent : All (λ o. OwedToNumber owed s.received o.seq o.out) s.sent
  pub marks : All (λ mark. OwedToNumber owed s.received mark.seq (Deferred mark.seq mark.id)) s.marks
  pub apart : (number : ℕ) → settled number s ≤ 1

-- From the empty state, events whose answers are owed lead only to states in which what was sent is owed to different messages. The
-- events before any of them lead to a state too: so this holds at each step.
abbrev pub SendsOwed : Owing → Type 0
SendsOwed owed =
    (workers : ℕ) (events : List Event) (s : State) → EachOwed owed (empty workers) events → Runs (empty workers) events s → OwedApart owed s
