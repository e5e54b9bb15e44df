-- That what is sent is owed to the message of its number.
use Rattle.std.proofs.Common.{◌≡◌, ℕ, zero, suc, List, [], ◌∷◌, ◌++◌, Some, length}
use Rattle.std.proofs.Common.{Bool, true, false, if◌then◌else◌, sym, subst, refl}
use Rattle.std.specs.List.{All, slice_get}
use Rattle.std.proofs.lemmas.List.Elements.{All-head, All-nil, All-push, All-replicate, All-rest, All-set}
use Rattle.std.proofs.lemmas.Option.{none-some}
use Rattle.fuse_reply.specs.declared.out.Out.{Out}
use Rattle.fuse_reply.specs.declared.out.Out.TheVariants.{Frame, Note, Deferred}
use Rattle.fuse_reply.specs.Late.{LateSeen}
use Rattle.fuse_reply.specs.declared.parcel.Parcel.{Parcel}
use Rattle.fuse_reply.specs.declared.parcel.Parcel.TheVariants.{Prompt, Notice, Late as Later}
use Rattle.fuse_core.specs.Marks.{is_unused, late_tag}
use Rattle.fuse_core.specs.declared.event.Event.{Event}
use Rattle.fuse_core.specs.declared.event.Event.TheVariants.{Receive, Take, Answer, Defer, Push, Send, Own, Late, Notify}
use Rattle.fuse_core.specs.declared.state.WorkerHand.{WorkerHand}
use Rattle.fuse_core.specs.declared.state.WorkerHand.TheVariants.{Empty, Asked, Answered}
use Rattle.fuse_core.specs.declared.state.Job.{Job}
use Rattle.fuse_core.specs.declared.state.Mark.{Mark}
use Rattle.fuse_core.specs.declared.state.SentOut.{SentOut}
use Rattle.fuse_core.specs.declared.state.State.{State}
use Rattle.fuse_core.specs.Step.{HandAnswers, Happens, Runs, empty, job, with_hand, went}
use Rattle.fuse_core.specs.Balanced.{Balanced, ParcelKeepsNumber}
use Rattle.fuse_core.specs.OnePerMessage.{Owing}
use Rattle.fuse_core.specs.Owing.{OwedAt, OwedInHand, EachOwed, OwedToNumber, OwedApart, SendsOwed}
use Rattle.fuse_core.proofs.Balancing.{Balanced-apart, Happens-balanced, all_at, empty-balanced, first_keeps}

-- a message stays where it was received, whatever comes after it
get_grown : {X : Type 0} (xs more : List X) (place : ℕ) (x : X) → slice_get xs place ≡ Some x → slice_get (xs ++ more) place ≡ Some x
get_grown [] more place x at = absurd (none-some x at)
get_grown (y ∷ ys) more zero x at = at
get_grown (y ∷ ys) more (suc place) x at = get_grown ys more place x at

get_last : {X : Type 0} (xs : List X) (x : X) → slice_get (xs ++ x ∷ []) (length xs) ≡ Some x
get_last [] x = refl
get_last (y ∷ ys) x = get_last ys x

-- what holds of each item, said in another way
all_so : {X : Type 0} (P Q : X → Type 0) (xs : List X) → ((x : X) → P x → Q x) → All P xs → All Q xs
all_so P Q xs so all = λ place default within. so _ (all place default within)

-- a job has the message of its number
abbrev IsJob : (messages : List (List ℕ)) → Job → Type 0
IsJob messages j = slice_get messages j.seq ≡ Some j.message

module _ (owed : Owing) where
  -- what a hand or a parcel holds for a message is owed to it
  abbrev HandOwed : (messages : List (List ℕ)) → WorkerHand → Type 0
  HandOwed messages Empty = Unit {0}
  HandOwed messages (Asked j) = IsJob messages j
  HandOwed messages (Answered seq out) = OwedToNumber owed messages seq out

  abbrev ParcelOwed : (messages : List (List ℕ)) → Parcel → Type 0
  ParcelOwed messages (Prompt seq out) = OwedToNumber owed messages seq out
  ParcelOwed messages (Later late) = Unit {0}
  ParcelOwed messages (Notice f) = Unit {0}

  abbrev SentOwed : (messages : List (List ℕ)) → SentOut → Type 0
  SentOwed messages o = OwedToNumber owed messages o.seq o.out

  abbrev MarkOwed : (messages : List (List ℕ)) → Mark → Type 0
  MarkOwed messages mark = OwedToNumber owed messages mark.seq (Deferred mark.seq mark.id)

  record Faithful (s : State) : Type 0 where
    jobs_are : All (IsJob s.received) s.jobs
    hands_owed : All (HandOwed s.received) s.hands
    line_owed : All (ParcelOwed s.received) s.line
    sent_owed : All (SentOwed s.received) s.sent
    marks_owed : All (MarkOwed s.received) s.marks

  owed_grown : (messages : List (List ℕ)) (m : List ℕ) (seq : ℕ) (out : Out)
      → OwedToNumber owed messages seq out → OwedToNumber owed (messages ++ m ∷ []) seq out
  owed_grown messages m seq out h = (h.0, get_grown messages (m ∷ []) seq h.0 h.1, h.2)

  hand_grown : (messages : List (List ℕ)) (m : List ℕ) (hand : WorkerHand) → HandOwed messages hand → HandOwed (messages ++ m ∷ []) hand
  hand_grown messages m Empty h = tt
  hand_grown messages m (Asked j) h = get_grown messages (m ∷ []) j.seq j.message h
  hand_grown messages m (Answered seq out) h = owed_grown messages m seq out h

  parcel_grown : (messages : List (List ℕ)) (m : List ℕ) (parcel : Parcel) → ParcelOwed messages parcel → ParcelOwed (messages ++ m ∷ []) parcel
  parcel_grown messages m (Prompt seq out) h = owed_grown messages m seq out h
  parcel_grown messages m (Later late) h = tt
  parcel_grown messages m (Notice f) h = tt

  -- one message more was received
  faithful_grown : (s : State) (m : List ℕ) → Faithful s → Faithful (record s { received = s.received ++ m ∷ [] })
  faithful_grown s m f = record {
    jobs_are = all_so (IsJob s.received) (IsJob (s.received ++ m ∷ [])) s.jobs (λ j h. get_grown s.received (m ∷ []) j.seq j.message h) f.jobs_are;
    hands_owed = all_so (HandOwed s.received) (HandOwed (s.received ++ m ∷ [])) s.hands (hand_grown s.received m) f.hands_owed;
    line_owed = all_so (ParcelOwed s.received) (ParcelOwed (s.received ++ m ∷ [])) s.line (parcel_grown s.received m) f.line_owed;
    sent_owed = all_so (SentOwed s.received) (SentOwed (s.received ++ m ∷ [])) s.sent (λ o h. owed_grown s.received m o.seq o.out h) f.sent_owed;
    marks_owed = all_so (MarkOwed s.received) (MarkOwed (s.received ++ m ∷ [])) s.marks
        (λ mark h. owed_grown s.received m mark.seq (Deferred mark.seq mark.id) h) f.marks_owed;
  }

  faithful_receive : (s : State) (m : List ℕ) → Faithful s
      → Faithful (record s { received = s.received ++ m ∷ []; jobs = s.jobs ++ job (length s.received) m ∷ [] })
  faithful_receive s m f =
      let g = faithful_grown s m f in
      record {
        jobs_are = All-push (IsJob (s.received ++ m ∷ [])) s.jobs (job (length s.received) m) g.jobs_are (get_last s.received m);
        hands_owed = g.hands_owed;
        line_owed = g.line_owed;
        sent_owed = g.sent_owed;
        marks_owed = g.marks_owed;
      }

  faithful_own : (s : State) (m : List ℕ) (out : Out) → owed (length s.received) m out → Faithful s
      → Faithful (record s { received = s.received ++ m ∷ []; line = s.line ++ Prompt (length s.received) out ∷ [] })
  faithful_own s m out is_owed f =
      let g = faithful_grown s m f in
      record {
        jobs_are = g.jobs_are;
        hands_owed = g.hands_owed;
        line_owed = All-push (ParcelOwed (s.received ++ m ∷ [])) s.line (Prompt (length s.received) out) g.line_owed (m, get_last s.received m, is_owed);
        sent_owed = g.sent_owed;
        marks_owed = g.marks_owed;
      }

  faithful_take : (s : State) (worker : ℕ) (first : Job) (rest : List Job) → s.jobs ≡ first ∷ rest → Faithful s
      → Faithful (with_hand (record s { jobs = rest }) worker (Asked first))
  faithful_take s worker first rest jobs f = record {
    jobs_are = All-rest (IsJob s.received) first rest s.jobs jobs f.jobs_are;
    hands_owed = All-set (HandOwed s.received) s.hands worker (Asked first)
        (All-head (IsJob s.received) first rest (subst (All (IsJob s.received)) jobs f.jobs_are)) f.hands_owed;
    line_owed = f.line_owed;
    sent_owed = f.sent_owed;
    marks_owed = f.marks_owed;
  }

  faithful_answer : (s : State) (worker : ℕ) (asked : Job) (out : Out) → slice_get s.hands worker ≡ Some (Asked asked)
      → owed asked.seq asked.message out → Faithful s → Faithful (with_hand s worker (Answered asked.seq out))
  faithful_answer s worker asked out at is_owed f = record {
    jobs_are = f.jobs_are;
    hands_owed = All-set (HandOwed s.received) s.hands worker (Answered asked.seq out)
        (asked.message, all_at (HandOwed s.received) s.hands worker (Asked asked) at f.hands_owed, is_owed) f.hands_owed;
    line_owed = f.line_owed;
    sent_owed = f.sent_owed;
    marks_owed = f.marks_owed;
  }

  faithful_push : (s : State) (worker seq : ℕ) (out : Out) → slice_get s.hands worker ≡ Some (Answered seq out) → Faithful s
      → Faithful (with_hand (record s { line = s.line ++ Prompt seq out ∷ [] }) worker Empty)
  faithful_push s worker seq out at f = record {
    jobs_are = f.jobs_are;
    hands_owed = All-set (HandOwed s.received) s.hands worker Empty tt f.hands_owed;
    line_owed = All-push (ParcelOwed s.received) s.line (Prompt seq out) f.line_owed
        (all_at (HandOwed s.received) s.hands worker (Answered seq out) at f.hands_owed);
    sent_owed = f.sent_owed;
    marks_owed = f.marks_owed;
  }

  faithful_notify : (s : State) (frame : List ℕ) → Faithful s → Faithful (record s { line = s.line ++ Notice frame ∷ [] })
  faithful_notify s frame f = record {
    jobs_are = f.jobs_are;
    hands_owed = f.hands_owed;
    line_owed = All-push (ParcelOwed s.received) s.line (Notice frame) f.line_owed tt;
    sent_owed = f.sent_owed;
    marks_owed = f.marks_owed;
  }

  first_owed : (s : State) (first : Parcel) (rest : List Parcel) → s.line ≡ first ∷ rest → Faithful s → ParcelOwed s.received first
  first_owed s first rest is f = All-head (ParcelOwed s.received) first rest (subst (All (ParcelOwed s.received)) is f.line_owed)

  -- what leaves the line is owed, and a mark has the number of its message
  faithful_went : (s : State) (first : Parcel) → ParcelOwed s.received first → ParcelKeepsNumber first → Faithful s → Faithful (went first s)
  faithful_went s (Prompt seq (Deferred number id)) is_owed keeps f = record {
    jobs_are = f.jobs_are;
    hands_owed = f.hands_owed;
    line_owed = f.line_owed;
    sent_owed = f.sent_owed;
    marks_owed = All-push (MarkOwed s.received) s.marks (record { seq = number; id = id }) f.marks_owed
        (subst (λ n. OwedToNumber owed s.received n (Deferred number id)) (sym keeps) is_owed);
  }
  faithful_went s (Prompt seq (Frame frame)) is_owed keeps f = record {
    jobs_are = f.jobs_are;
    hands_owed = f.hands_owed;
    line_owed = f.line_owed;
    sent_owed = All-push (SentOwed s.received) s.sent (record { seq = seq; out = Frame frame }) f.sent_owed is_owed;
    marks_owed = f.marks_owed;
  }
  faithful_went s (Prompt seq (Note id mark)) is_owed keeps f = record {
    jobs_are = f.jobs_are;
    hands_owed = f.hands_owed;
    line_owed = f.line_owed;
    sent_owed = All-push (SentOwed s.received) s.sent (record { seq = seq; out = Note id mark }) f.sent_owed is_owed;
    marks_owed = f.marks_owed;
  }
  faithful_went s (Later late) is_owed keeps f = by_test (is_unused (late_tag late) s.marks s.late) where
    by_test : (unused : Bool) → Faithful (if unused then record s { late = s.late ++ late ∷ [] } else record s { held = s.held ++ late ∷ [] })
    by_test true = record {
      jobs_are = f.jobs_are;
      hands_owed = f.hands_owed;
      line_owed = f.line_owed;
      sent_owed = f.sent_owed;
      marks_owed = f.marks_owed;
    }
    by_test false = record {
      jobs_are = f.jobs_are;
      hands_owed = f.hands_owed;
      line_owed = f.line_owed;
      sent_owed = f.sent_owed;
      marks_owed = f.marks_owed;
    }
  faithful_went s (Notice frame) is_owed keeps f = f

  faithful_send : (s : State) (first : Parcel) (rest : List Parcel) → s.line ≡ first ∷ rest → Balanced s → Faithful s
      → Faithful (went first (record s { line = rest }))
  faithful_send s first rest is b f =
      faithful_went (record s { line = rest }) first (first_owed s first rest is f) (first_keeps s first rest is b) (record {
        jobs_are = f.jobs_are;
        hands_owed = f.hands_owed;
        line_owed = All-rest (ParcelOwed s.received) first rest s.line is f.line_owed;
        sent_owed = f.sent_owed;
        marks_owed = f.marks_owed;
      })

  faithful_late : (s : State) (late : LateSeen) → Faithful s → Faithful (record s { line = s.line ++ Later late ∷ [] })
  faithful_late s late f = record {
    jobs_are = f.jobs_are;
    hands_owed = f.hands_owed;
    line_owed = All-push (ParcelOwed s.received) s.line (Later late) f.line_owed tt;
    sent_owed = f.sent_owed;
    marks_owed = f.marks_owed;
  }

  faithful_hand : (s : State) (worker : ℕ) (out : Out) (t : State) → HandAnswers s worker out t → OwedInHand owed s worker out → Faithful s → Faithful t
  faithful_hand s worker out t h o f = subst Faithful (sym h.3) (faithful_answer s worker h.0 out h.1 (o h.0 h.1) f)

  Happens-faithful : (s : State) (event : Event) (t : State) → Happens s event t → OwedAt owed s event → Balanced s → Faithful s → Faithful t
  Happens-faithful s (Receive m) t h o b f = subst Faithful (sym h.1) (faithful_receive s m f)
  Happens-faithful s (Take worker) t h o b f = subst Faithful (sym h.4) (faithful_take s worker h.0 h.1 h.2 f)
  Happens-faithful s (Answer worker out) t h o b f = faithful_hand s worker out t h o f
  Happens-faithful s (Defer worker seq id) t h o b f = faithful_hand s worker (Deferred seq id) t h o f
  Happens-faithful s (Push worker) t h o b f = subst Faithful (sym h.4) (faithful_push s worker h.0 h.1 h.2 f)
  Happens-faithful s Send t h o b f = subst Faithful (sym h.3) (faithful_send s h.0 h.1 h.2 b f)
  Happens-faithful s (Own m out) t h o b f = subst Faithful (sym h.2) (faithful_own s m out o f)
  Happens-faithful s (Late late) t h o b f = subst Faithful (sym h.1) (faithful_late s late f)
  Happens-faithful s (Notify frame) t h o b f = subst Faithful (sym h.1) (faithful_notify s frame f)

  faithful_empty : (workers : ℕ) → Faithful (empty workers)
  faithful_empty workers = record {
    jobs_are = All-nil (IsJob []);
    hands_owed = All-replicate (HandOwed []) workers Empty tt;
    line_owed = All-nil (ParcelOwed []);
    sent_owed = All-nil (SentOwed []);
    marks_owed = All-nil (MarkOwed []);
  }

  Runs-apart : (events : List Event) (s t : State) → EachOwed owed s events → Runs s events t → Balanced s → Faithful s → OwedApart owed t
  Runs-apart [] s t o r b f =
      subst (OwedApart owed) (sym r) (record { sent = f.sent_owed; marks = f.marks_owed; apart = Balanced-apart s b })
  Runs-apart (event ∷ events) s t o r b f =
      Runs-apart events r.0 t (o.1 r.0 r.1) r.2 (Happens-balanced s event r.0 r.1 b) (Happens-faithful s event r.0 r.1 o.0 b f)

  pub sends_owed : SendsOwed owed
  sends_owed workers events s o r = Runs-apart events (empty workers) s o r (empty-balanced workers) (faithful_empty workers)
