-- That each event leaves each message in one place.
use Rattle.std.proofs.Common.{◌≡◌, ◌+◌, ◌≤◌, ℕ, List, [], ◌∷◌, ◌++◌, Some, set, length, nat_lt, if◌then◌else◌}
use Rattle.std.proofs.Common.{Bool, true, false, sym, ap, ◌∙◌, refl, subst, arith}
use Rattle.std.specs.List.{All, sum_by, slice_get}
use Rattle.std.proofs.lemmas.List.{length_push}
use Rattle.std.proofs.lemmas.List.Elements.{All-get_or, All-head, All-nil, All-push, All-replicate, All-rest, All-set}
use Rattle.std.proofs.lemmas.List.Folds.{sum_by-replicate}
use Rattle.std.proofs.lemmas.List.Sums.{sum_by-cons, sum_by-set, sum_by_push}
use Rattle.std.proofs.lemmas.Option.{get_or_from_slice_get, slice_get_within}
use Rattle.fuse_reply.specs.declared.out.Out.{Out}
use Rattle.fuse_reply.specs.declared.out.Out.TheVariants.{Frame, Note, Deferred}
use Rattle.fuse_reply.specs.Late.{LateSeen}
use Rattle.fuse_reply.specs.declared.parcel.Parcel.{Parcel}
use Rattle.fuse_reply.specs.declared.parcel.Parcel.TheVariants.{Prompt, Notice, Late as Later}
use Rattle.fuse_core.specs.Marks.{is_unused, late_tag}
use Rattle.fuse_core.specs.declared.event.Event.{Event}
use Rattle.fuse_core.specs.declared.event.Event.TheVariants.{Receive, Take, Answer, Defer, Push, Send, Own, Late, Notify}
use Rattle.fuse_core.specs.declared.state.WorkerHand.TheVariants.{Empty, Asked, Answered}
use Rattle.fuse_core.specs.declared.state.Job.{Job}
use Rattle.fuse_core.specs.declared.state.Mark.{Mark}
use Rattle.fuse_core.specs.declared.state.SentOut.{SentOut}
use Rattle.fuse_core.specs.declared.state.State.{State}
use Rattle.fuse_core.specs.Step.{Happens, HandAnswers, Runs, StandsFor, empty, job, with_hand, went}
use Rattle.fuse_core.specs.Balanced.{Balanced, KeepsNumber, HandKeepsNumber, ParcelKeepsNumber, once_if, in_hand, on_parcel, settled}
use Rattle.fuse_core.proofs.LateFrames.{AreMatched-late, AreMatched-marked}

-- once where the number is below the count, and else not at all
abbrev once_below : (number count : ℕ) → ℕ
once_below number count = if nat_lt number count then 1 else 0

once_below-next : (number count : ℕ) → once_below number count + once_if number count ≡ once_below number (count + 1)
once_below-next number count = grind arith

once_below-zero : (number : ℕ) → once_below number 0 ≡ 0
once_below-zero number = grind arith

once_below-one : (number count : ℕ) → once_below number count ≤ 1
once_below-one number count = grind arith

-- what holds of each item holds of the one at a place
pub all_at : {X : Type 0} (P : X → Type 0) (xs : List X) (place : ℕ) (x : X) → slice_get xs place ≡ Some x → All P xs → P x
all_at P xs place x at all = subst P (get_or_from_slice_get xs place x x at) (All-get_or P xs place x (slice_get_within xs place x at) all)

sum_set : {X : Type 0} (f : X → ℕ) (xs : List X) (place : ℕ) (x y : X) → slice_get xs place ≡ Some x
    → sum_by f (set xs place y) + f x ≡ sum_by f xs + f y
sum_set f xs place x y at =
    subst (λ z. sum_by f (set xs place y) + f z ≡ sum_by f xs + f y) (get_or_from_slice_get xs place x x at)
    (sum_by-set f xs place y x (slice_get_within xs place x at))

sum_first : {X : Type 0} (f : X → ℕ) (xs rest : List X) (x : X) → xs ≡ x ∷ rest → sum_by f xs ≡ f x + sum_by f rest
sum_first f xs rest x is = ap (sum_by f) is ∙ sum_by-cons f x rest

StandsFor-keeps : (seq : ℕ) (m : List ℕ) (out : Out) → StandsFor seq m out → KeepsNumber seq out
StandsFor-keeps seq m (Deferred number id) h = h.0
StandsFor-keeps seq m (Frame f) h = tt
StandsFor-keeps seq m (Note id mark) h = tt

-- a number among those of the jobs, of what was sent and of the marks
abbrev of_job : (number : ℕ) → Job → ℕ
of_job number j = once_if number j.seq

abbrev of_sent : (number : ℕ) → SentOut → ℕ
of_sent number o = once_if number o.seq

abbrev of_mark : (number : ℕ) → Mark → ℕ
of_mark number m = once_if number m.seq

balanced_receive : (s : State) (m : List ℕ) → Balanced s
    → Balanced (record s { received = s.received ++ m ∷ []; jobs = s.jobs ++ job (length s.received) m ∷ [] })
balanced_receive s m b = record {
  each_once = λ number. omega (
    arith,
    b.each_once number,
    sum_by_push (of_job number) s.jobs (job (length s.received) m),
    once_below-next number (length s.received),
    ap (once_below number) (length_push s.received m),
  );
  hands = b.hands;
  line = b.line;
  matched = b.matched;
}

balanced_take : (s : State) (worker : ℕ) (first : Job) (rest : List Job) → s.jobs ≡ first ∷ rest → slice_get s.hands worker ≡ Some Empty
    → Balanced s → Balanced (with_hand (record s { jobs = rest }) worker (Asked first))
balanced_take s worker first rest jobs free b = record {
  each_once = λ number. omega (
    arith,
    b.each_once number,
    sum_first (of_job number) s.jobs rest first jobs,
    sum_set (in_hand number) s.hands worker Empty (Asked first) free,
  );
  hands = All-set HandKeepsNumber s.hands worker (Asked first) tt b.hands;
  line = b.line;
  matched = b.matched;
}

balanced_answer : (s : State) (worker : ℕ) (asked : Job) (out : Out) → slice_get s.hands worker ≡ Some (Asked asked)
    → StandsFor asked.seq asked.message out → Balanced s → Balanced (with_hand s worker (Answered asked.seq out))
balanced_answer s worker asked out at stands_for b = record {
  each_once = λ number. omega (arith, b.each_once number, sum_set (in_hand number) s.hands worker (Asked asked) (Answered asked.seq out) at);
  hands = All-set HandKeepsNumber s.hands worker (Answered asked.seq out) (StandsFor-keeps asked.seq asked.message out stands_for) b.hands;
  line = b.line;
  matched = b.matched;
}

balanced_push : (s : State) (worker seq : ℕ) (out : Out) → slice_get s.hands worker ≡ Some (Answered seq out)
    → Balanced s → Balanced (with_hand (record s { line = s.line ++ Prompt seq out ∷ [] }) worker Empty)
balanced_push s worker seq out at b = record {
  each_once = λ number. omega (
    arith,
    b.each_once number,
    sum_set (in_hand number) s.hands worker (Answered seq out) Empty at,
    sum_by_push (on_parcel number) s.line (Prompt seq out),
  );
  hands = All-set HandKeepsNumber s.hands worker Empty tt b.hands;
  line = All-push ParcelKeepsNumber s.line (Prompt seq out) b.line (all_at HandKeepsNumber s.hands worker (Answered seq out) at b.hands);
  matched = b.matched;
}

balanced_own : (s : State) (m : List ℕ) (out : Out) → StandsFor (length s.received) m out → Balanced s
    → Balanced (record s { received = s.received ++ m ∷ []; line = s.line ++ Prompt (length s.received) out ∷ [] })
balanced_own s m out stands_for b = record {
  each_once = λ number. omega (
    arith,
    b.each_once number,
    sum_by_push (on_parcel number) s.line (Prompt (length s.received) out),
    once_below-next number (length s.received),
    ap (once_below number) (length_push s.received m),
  );
  hands = b.hands;
  line = All-push ParcelKeepsNumber s.line (Prompt (length s.received) out) b.line (StandsFor-keeps (length s.received) m out stands_for);
  matched = b.matched;
}

balanced_notify : (s : State) (f : List ℕ) → Balanced s → Balanced (record s { line = s.line ++ Notice f ∷ [] })
balanced_notify s f b = record {
  each_once = λ number. omega (arith, b.each_once number, sum_by_push (on_parcel number) s.line (Notice f));
  hands = b.hands;
  line = All-push ParcelKeepsNumber s.line (Notice f) b.line tt;
  matched = b.matched;
}

-- the first parcel has its message's number
pub first_keeps : (s : State) (first : Parcel) (rest : List Parcel) → s.line ≡ first ∷ rest → Balanced s → ParcelKeepsNumber first
first_keeps s first rest is b = All-head ParcelKeepsNumber first rest (subst (All ParcelKeepsNumber) is b.line)

balanced_send : (s : State) (first : Parcel) (rest : List Parcel) → s.line ≡ first ∷ rest → Balanced s
    → Balanced (went first (record s { line = rest }))
balanced_send s (Prompt seq (Deferred n id)) rest is b = record {
  each_once = λ number. omega (
    arith,
    b.each_once number,
    sum_first (on_parcel number) s.line rest (Prompt seq (Deferred n id)) is,
    sum_by_push (of_mark number) s.marks (record { seq = n; id = id }),
    ap (once_if number) (first_keeps s (Prompt seq (Deferred n id)) rest is b),
  );
  hands = b.hands;
  line = All-rest ParcelKeepsNumber (Prompt seq (Deferred n id)) rest s.line is b.line;
  matched = AreMatched-marked s.marks s.late s.held (record { seq = n; id = id }) b.matched;
}
balanced_send s (Prompt seq (Frame f)) rest is b = record {
  each_once = λ number. omega (
    arith,
    b.each_once number,
    sum_first (on_parcel number) s.line rest (Prompt seq (Frame f)) is,
    sum_by_push (of_sent number) s.sent (record { seq = seq; out = Frame f }),
  );
  hands = b.hands;
  line = All-rest ParcelKeepsNumber (Prompt seq (Frame f)) rest s.line is b.line;
  matched = b.matched;
}
balanced_send s (Prompt seq (Note id mark)) rest is b = record {
  each_once = λ number. omega (
    arith,
    b.each_once number,
    sum_first (on_parcel number) s.line rest (Prompt seq (Note id mark)) is,
    sum_by_push (of_sent number) s.sent (record { seq = seq; out = Note id mark }),
  );
  hands = b.hands;
  line = All-rest ParcelKeepsNumber (Prompt seq (Note id mark)) rest s.line is b.line;
  matched = b.matched;
}
balanced_send s (Later late) rest is b = by_test (is_unused (late_tag late) s.marks s.late) refl where
  by_test : (unused : Bool) → is_unused (late_tag late) s.marks s.late ≡ unused
      → Balanced (if unused then record s { line = rest; late = s.late ++ late ∷ [] } else record s { line = rest; held = s.held ++ late ∷ [] })
  by_test true is_so = record {
    each_once = λ number. omega (arith, b.each_once number, sum_first (on_parcel number) s.line rest (Later late) is);
    hands = b.hands;
    line = All-rest ParcelKeepsNumber (Later late) rest s.line is b.line;
    matched = AreMatched-late s.marks s.late late is_so b.matched;
  }
  by_test false is_so = record {
    each_once = λ number. omega (arith, b.each_once number, sum_first (on_parcel number) s.line rest (Later late) is);
    hands = b.hands;
    line = All-rest ParcelKeepsNumber (Later late) rest s.line is b.line;
    matched = b.matched;
  }
balanced_send s (Notice f) rest is b = record {
  each_once = λ number. omega (arith, b.each_once number, sum_first (on_parcel number) s.line rest (Notice f) is);
  hands = b.hands;
  line = All-rest ParcelKeepsNumber (Notice f) rest s.line is b.line;
  matched = b.matched;
}

balanced_late : (s : State) (late : LateSeen) → Balanced s → Balanced (record s { line = s.line ++ Later late ∷ [] })
balanced_late s late b = record {
  each_once = λ number. omega (arith, b.each_once number, sum_by_push (on_parcel number) s.line (Later late));
  hands = b.hands;
  line = All-push ParcelKeepsNumber s.line (Later late) b.line tt;
  matched = b.matched;
}

balanced_hand : (s : State) (worker : ℕ) (out : Out) (t : State) → HandAnswers s worker out t → Balanced s → Balanced t
balanced_hand s worker out t h b = subst Balanced (sym h.3) (balanced_answer s worker h.0 out h.1 h.2 b)

pub Happens-balanced : (s : State) (event : Event) (t : State) → Happens s event t → Balanced s → Balanced t
Happens-balanced s (Receive m) t h b = subst Balanced (sym h.1) (balanced_receive s m b)
Happens-balanced s (Take worker) t h b = subst Balanced (sym h.4) (balanced_take s worker h.0 h.1 h.2 h.3 b)
Happens-balanced s (Answer worker out) t h b = balanced_hand s worker out t h b
Happens-balanced s (Defer worker seq id) t h b = balanced_hand s worker (Deferred seq id) t h b
Happens-balanced s (Push worker) t h b = subst Balanced (sym h.4) (balanced_push s worker h.0 h.1 h.2 b)
Happens-balanced s Send t h b = subst Balanced (sym h.3) (balanced_send s h.0 h.1 h.2 b)
Happens-balanced s (Own m out) t h b = subst Balanced (sym h.2) (balanced_own s m out h.1 b)
Happens-balanced s (Late late) t h b = subst Balanced (sym h.1) (balanced_late s late b)
Happens-balanced s (Notify f) t h b = subst Balanced (sym h.1) (balanced_notify s f b)

pub Runs-balanced : (events : List Event) (s t : State) → Runs s events t → Balanced s → Balanced t
Runs-balanced [] s t r b = subst Balanced (sym r) b
Runs-balanced (event ∷ events) s t r b = Runs-balanced events r.0 t r.2 (Happens-balanced s event r.0 r.1 b)

pub empty-balanced : (workers : ℕ) → Balanced (empty workers)
empty-balanced workers = record {
  each_once = λ number. omega (arith, sum_by-replicate (in_hand number) workers Empty, once_below-zero number);
  hands = All-replicate HandKeepsNumber workers Empty tt;
  line = All-nil ParcelKeepsNumber;
  matched = tt;
}

-- no number stands twice among what was sent and what comes later
pub Balanced-apart : (s : State) → Balanced s → (number : ℕ) → settled number s ≤ 1
Balanced-apart s b number = omega (arith, b.each_once number, once_below-one number (length s.received))
