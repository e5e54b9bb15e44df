-- What may happen on any number of workers, one step after another, and what each step makes of the state. The lists stand for what
-- the threads share: a line of jobs, a hand for each worker, and a line of parcels for whoever sends.
use Rattle.std.specs.Prelude.{◌≡◌, ◌<◌, ◌++◌, ℕ, Bool, true, false, List, [], ◌∷◌, Option, Some, None, Ok}
use Rattle.std.specs.Prelude.{length, replicate, slice_get, slice_set, if◌then◌else◌}
use Rattle.fuse_header.specs.Header.{header}
use Rattle.fuse_header.specs.declared.header.Header.{Header}
use Rattle.fuse_reply.specs.declared.out.Out.{Out}
use Rattle.fuse_reply.specs.declared.out.Out.TheVariants.{Frame, Note, Deferred}
use Rattle.fuse_reply.specs.Late.{LateSeen}
use Rattle.fuse_reply.specs.declared.parcel.Parcel.{Parcel}
use Rattle.fuse_reply.specs.declared.parcel.Parcel.TheVariants.{Prompt, Notice, Late as Later}
use Rattle.fuse_core.specs.Marks.{is_unused, late_tag, let_go, still_held, tag_of}
use Rattle.fuse_core.specs.declared.event.Event.{Event}
use Rattle.fuse_core.specs.declared.event.Event.TheVariants.{Receive, Take, Answer, Defer, Push, Send, Own, Late, Notify}
use Rattle.fuse_core.specs.declared.state.TheConstants.{LINE_PLACES}
use Rattle.fuse_core.specs.declared.state.WorkerHand.{WorkerHand}
use Rattle.fuse_core.specs.declared.state.WorkerHand.TheVariants.{Empty, Asked, Answered}
use Rattle.fuse_core.specs.declared.state.Job.{Job}
use Rattle.fuse_core.specs.declared.state.Mark.{Mark}
use Rattle.fuse_core.specs.declared.state.State.{State}

-- nothing has happened yet, and there are so many workers
abbrev pub empty : (workers : ℕ) → State
empty workers = record { received = []; jobs = []; hands = replicate workers Empty; line = []; sent = []; marks = []; held = []; late = [] }

-- a line has a place for one more
abbrev pub HasRoom : {X : Type 0} → List X → Type 0
HasRoom xs = length xs < LINE_PLACES

-- What may go out for a message: a reply that comes later is marked with the message's number and with the id of its header, which
-- must be good. Of all else nothing is asked.
abbrev pub StandsFor : (seq : ℕ) → (m : List ℕ) → Out → Type 0
StandsFor seq m (Deferred number id) = (number ≡ seq) × ((h : Header) × (header m ≡ Ok h) × (id ≡ h.unique))
StandsFor seq m (Frame f) = Unit {0}
StandsFor seq m (Note id mark) = Unit {0}

-- a message with its number
abbrev pub job : (seq : ℕ) → (m : List ℕ) → Job
job seq m = record { seq = seq; message = m }

-- the state with another thing in a worker's hand
abbrev pub with_hand : State → (worker : ℕ) → WorkerHand → State
with_hand s worker hand = record s { hands = slice_set s.hands worker hand }

-- the state after a mark came, which lets the first held frame go that goes to it
abbrev pub marked : Mark → State → State
marked mark s =
    record s { marks = s.marks ++ mark ∷ []; held = still_held (tag_of mark) s.held; late = s.late ++ let_go (tag_of mark) s.held }

-- the state after a late frame left the line: it was sent where a mark of its number and id is unused, and else it is held
abbrev pub late_went : LateSeen → State → State
late_went late s =
    if is_unused (late_tag late) s.marks s.late then record s { late = s.late ++ late ∷ [] } else record s { held = s.held ++ late ∷ [] }

-- what sending a parcel makes of a state: what goes out for a message was sent, or marks that the reply comes later
abbrev pub went : Parcel → State → State
went (Prompt seq (Deferred number id)) s = marked (record { seq = number; id = id }) s
went (Prompt seq (Frame f)) s = record s { sent = s.sent ++ record { seq = seq; out = Frame f } ∷ [] }
went (Prompt seq (Note id mark)) s = record s { sent = s.sent ++ record { seq = seq; out = Note id mark } ∷ [] }
went (Later late) s = late_went late s
went (Notice f) s = s

-- a hand with a job comes to hold what goes out for it
abbrev pub HandAnswers : State → (worker : ℕ) → Out → State → Type 0
HandAnswers s worker out t =
    (asked : Job) × (slice_get s.hands worker ≡ Some (Asked asked)) × StandsFor asked.seq asked.message out
    × (t ≡ with_hand s worker (Answered asked.seq out))

-- The event may happen in the first state, and makes the other of it.
abbrev pub Happens : State → Event → State → Type 0
-- a message gets the next number, and is the last job
Happens s (Receive m) t =
    HasRoom s.jobs × (t ≡ record s { received = s.received ++ m ∷ []; jobs = s.jobs ++ job (length s.received) m ∷ [] })
-- the first job goes to an empty hand
Happens s (Take worker) t =
    (first : Job) × (rest : List Job) × (s.jobs ≡ first ∷ rest) × (slice_get s.hands worker ≡ Some Empty)
    × (t ≡ with_hand (record s { jobs = rest }) worker (Asked first))
-- what goes out for a job is in the hand that had the job
Happens s (Answer worker out) t = HandAnswers s worker out t
-- and so is the mark of a reply that comes later
Happens s (Defer worker seq id) t = HandAnswers s worker (Deferred seq id) t
-- what a hand holds is the last parcel
Happens s (Push worker) t =
    (seq : ℕ) × (out : Out) × (slice_get s.hands worker ≡ Some (Answered seq out)) × HasRoom s.line
    × (t ≡ with_hand (record s { line = s.line ++ Prompt seq out ∷ [] }) worker Empty)
-- the first parcel leaves
Happens s Send t = (first : Parcel) × (rest : List Parcel) × (s.line ≡ first ∷ rest) × (t ≡ went first (record s { line = rest }))
-- a message gets the next number, and what goes out for it is the last parcel
Happens s (Own m out) t =
    HasRoom s.line × StandsFor (length s.received) m out
    × (t ≡ record s { received = s.received ++ m ∷ []; line = s.line ++ Prompt (length s.received) out ∷ [] })
-- a reply that comes later is the last parcel
Happens s (Late late) t = HasRoom s.line × (t ≡ record s { line = s.line ++ Later late ∷ [] })
-- a notice is the last parcel
Happens s (Notify f) t = HasRoom s.line × (t ≡ record s { line = s.line ++ Notice f ∷ [] })

-- the state after the event, or none where the event cannot happen
abbrev pub Follows : State → Event → Option State → Type 0
Follows s event (Some t) = Happens s event t
Follows s event None = (t : State) → ¬ (Happens s event t)

-- whether the event may happen, and then it makes the other state of the first
abbrev pub MayHappen : State → Event → State → Bool → Type 0
MayHappen s event t true = Happens s event t
MayHappen s event t false = (u : State) → ¬ (Happens s event u)

-- these events may happen one after another, and make the other state of the first
abbrev pub Runs : State → List Event → State → Type 0
Runs s [] t = t ≡ s
Runs s (event ∷ events) t = (next : State) × Happens s event next × Runs next events t

-- the state after the events, or none where one of them cannot happen
abbrev pub LeadsTo : State → List Event → Option State → Type 0
LeadsTo s events (Some t) = Runs s events t
LeadsTo s events None = (t : State) → ¬ (Runs s events t)
