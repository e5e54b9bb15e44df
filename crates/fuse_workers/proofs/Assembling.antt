-- A run from its parts: up to order, where its parts are on several threads.
use Rattle.std.proofs.Common.{◌≡◌, ◌⊎◌, ◌∙◌, ◌++◌, ◌+◌, ◌∷◌, [], ℕ, suc, Bool, true, false, List, ap, append-nil, arith, inl, inr}
use Rattle.std.proofs.Common.{length, map, min, refl, subst, sym}
use Rattle.std.specs.Prelude.{remove}
use Rattle.std.specs.List.{All, Contains}
use Rattle.fuse_wire.specs.Faults.{last_count}
use Rattle.fuse_wire.specs.Source.{SourceState, NothingLeft, SourceFailed}
use Rattle.fuse_wire.specs.Sink.{SinkState, Note}
use Rattle.fuse_reply.specs.declared.out.Out.{Out}
use Rattle.fuse_reply.specs.declared.out.Out.TheVariants.{Frame, Note as Noting, Deferred}
use Rattle.fuse_line.specs.declared.hand.Hand.{Hand}
use Rattle.fuse_reply.specs.declared.parcel.Parcel.{Parcel}
use Rattle.fuse_workers.specs.HandingOn.{AnsweredBy, answered_last}
use Rattle.fuse_workers.specs.Conducting.{Conducts}
use Rattle.fuse_loop.specs.EventLoop.{Run, RunEnds}
use Rattle.fuse_workers.specs.Hearing.{Hears, StopsWith, end_of}
use Rattle.fuse_loop.specs.Incoming.{AllGoOn, IsBroken}
use Rattle.fuse_loop.specs.Lines.{lates_in, notices_in}
use Rattle.fuse_core.specs.Book.{EachWaiting, IsBookOf, tags_of}
use Rattle.fuse_core.specs.AreMatched.{AreMatched, Tag}
use Rattle.fuse_workers.specs.OnePerMessageLater.{EachLetGo, NoneHeldBack, OnePerMessageLater}
use Rattle.fuse_workers.specs.Relays.{RelayState, Relays, is_own, late_out, with_tag}
use Rattle.fuse_reply.specs.Late.{LateSeen}
use Rattle.fuse_core.specs.OnePerMessage.{Accounting, OnePerMessage, Owing, UpToOrder, number_of}
use Rattle.fuse_workers.specs.Pairing.{Parts, numbered, outs_of}
use Rattle.fuse_loop.specs.Progress.{IntakeState, IsPrompt, LeavesOut, Moves, but_unrecorded, nothing_yet, progress, tally}
use Rattle.fuse_loop.specs.Answering.{answering}
use Rattle.fuse_workers.specs.declared.stopped.Stopped.{Stopped}
use Rattle.fuse_workers.specs.declared.stopped.Stopped.TheVariants.{Gone, Destroy, Broken, Failed}
use Rattle.fuse_core.specs.declared.state.Job.{Job}
use Rattle.fuse_loop.specs.declared.transcript.Transcript.{Transcript}
use Rattle.fuse_core.proofs.Bookkeeping.{IsBookOf-matches}
use Rattle.fuse_workers.proofs.LateReplies.{each-arrived, each-let_go, gone-matched, none-arrived, none-gone, none-unused, replies-gone}
use Rattle.fuse_workers.proofs.Pairing.{OnePerMessage-parts, Pairs-all, Parts-prompt}
use Rattle.fuse_loop.proofs.Quieting.{LeavesOut-none}
use Rattle.fuse_workers.proofs.Splitting.{Split, bytes_of, frames_gone, split}

-- what is owed in a stricter sense is owed
pub OnePerMessage-weaken : (strict owed : Owing) (broken : List ℕ → Type 0) → ((seq : ℕ) (m : List ℕ) (out : Out) → strict seq m out → owed seq m out)
    → (place : ℕ) (ms fs : List (List ℕ)) (ns marks : List Note) (lost : ℕ)
    → OnePerMessage strict broken place ms fs ns marks lost → OnePerMessage owed broken place ms fs ns marks lost
OnePerMessage-weaken strict owed broken weak place [] fs ns marks lost h = h
OnePerMessage-weaken strict owed broken weak place (m ∷ ms) fs ns marks lost (inl p) =
    inl (p.0, p.1, p.2, weak (number_of place) m (Frame p.1) p.3, OnePerMessage-weaken strict owed broken weak (suc place) ms (remove fs p.0) ns marks lost p.4)
OnePerMessage-weaken strict owed broken weak place (m ∷ ms) fs ns marks lost (inr (inl p)) =
    inr (inl (
      p.0,
      p.1,
      p.2,
      weak (number_of place) m (Noting (record { 0 = p.1.0 }) p.1.1) p.3,
      OnePerMessage-weaken strict owed broken weak (suc place) ms fs (remove ns p.0) marks lost p.4,
    ))
OnePerMessage-weaken strict owed broken weak place (m ∷ ms) fs ns marks lost (inr (inr (inl p))) =
    inr (inr (inl (
      p.0,
      p.1,
      p.2,
      weak (number_of place) m (Deferred p.1.0 (record { 0 = p.1.1 })) p.3,
      OnePerMessage-weaken strict owed broken weak (suc place) ms fs ns (remove marks p.0) lost p.4,
    )))
OnePerMessage-weaken strict owed broken weak place (m ∷ ms) fs ns marks lost (inr (inr (inr p))) =
    inr (inr (inr (p.0, p.1, p.2, OnePerMessage-weaken strict owed broken weak (suc place) ms fs ns marks p.0 p.3)))

-- what was counted from nothing, with the messages that were taken, and with what could not be recorded
Moves-counted : {fs : List (List ℕ)} {ns : List Note} {ls : List Out} (turns received unrecorded : ℕ) (source source' : SourceState) (sink sink' : SinkState)
    (counts counts' : Transcript) (unasked : List (List ℕ)) → Moves 0 fs ns ls (progress source sink counts []) (progress source sink' counts' unasked)
    → counts ≡ nothing_yet → received ≡ number_of turns
    → Moves turns fs ns ls (progress source sink nothing_yet [])
    (progress source' sink' (record counts' { received = received; unrecorded = unrecorded }) unasked)
Moves-counted {fs} {ns} {ls} turns received unrecorded source source' sink sink' counts counts' unasked moved none took = record {
  appended = moved.appended;
  refused = moved.refused;
  written = moved.written;
  replied = moved.replied;
  missed = moved.missed;
  set_aside = moved.set_aside;
  passed_on = moved.passed_on;
  tail = moved.tail;
  cause = moved.cause;
  counts = λ r f n l is.
      let r0 : r ≡ 0 = let e : 0 ≡ min r last_count = ap (λ (t : Transcript). t.received) is in omega (arith, e) in
      let f0 : f ≡ 0 = let e : 0 ≡ min f last_count = ap (λ (t : Transcript). t.frames) is in omega (arith, e) in
      let n0 : n ≡ 0 = let e : 0 ≡ min n last_count = ap (λ (t : Transcript). t.notes) is in omega (arith, e) in
      let l0 : l ≡ 0 = let e : 0 ≡ min l last_count = ap (λ (t : Transcript). t.lost) is in omega (arith, e) in
      ap (λ (t : Transcript). record t { received = received }) (moved.counts 0 0 0 0 (ap but_unrecorded none))
      ∙ counted-from r f n l turns received (length fs) (length ns) (length ls) r0 f0 n0 l0 took;
} where
  counted-from : (r f n l turns received fs ns ls : ℕ) → r ≡ 0 → f ≡ 0 → n ≡ 0 → l ≡ 0 → received ≡ number_of turns
      → record (tally (0 + 0) (0 + fs) (0 + ns) (0 + ls)) { received = received } ≡ tally (r + turns) (f + fs) (n + ns) (l + ls)
  counted-from r f n l turns received fs ns ls r0 f0 n0 l0 took =
      let a : received ≡ min (r + turns) last_count = omega (arith, took, r0) in
      let b : min (0 + fs) last_count ≡ min (f + fs) last_count = omega (arith, f0) in
      let c : min (0 + ns) last_count ≡ min (n + ns) last_count = omega (arith, n0) in
      let d : min (0 + ls) last_count ≡ min (l + ls) last_count = omega (arith, l0) in
      cc

-- the last message where it has no good header
abbrev refused_last : Stopped → (last : List (List ℕ)) → List (List ℕ)
refused_last (Broken e) last = last
refused_last Gone last = []
refused_last (Destroy seq id) last = []
refused_last Failed last = []

heard-parts : (stopped : Stopped) (number : ℕ) (ms last : List (List ℕ)) (none_left failed : Type 0) → StopsWith stopped number last none_left failed
    → ms ++ last ≡ (ms ++ answered_last stopped last) ++ refused_last stopped last
heard-parts Gone number ms last none_left failed stops = ap (λ (l : List (List ℕ)). ms ++ l) stops.0 ∙ sym (append-nil (ms ++ []))
heard-parts (Destroy seq id) number ms last none_left failed stops = sym (append-nil (ms ++ last))
heard-parts (Broken e) number ms last none_left failed stops = ap (λ (l : List (List ℕ)). l ++ last) (sym (append-nil ms))
heard-parts Failed number ms last none_left failed stops = ap (λ (l : List (List ℕ)). ms ++ l) stops.0 ∙ sym (append-nil (ms ++ []))

ends-parts : (stopped : Stopped) (number : ℕ) (ms last : List (List ℕ)) (none_left failed : Type 0) → AllGoOn ms
    → StopsWith stopped number last none_left failed
    → RunEnds (end_of stopped) (ms ++ answered_last stopped last) (refused_last stopped last) none_left failed
ends-parts Gone number ms last none_left failed go stops = (refl, subst AllGoOn (sym (append-nil ms)) go, stops.1)
ends-parts (Destroy seq id) number ms last none_left failed go stops =
    (refl, (ms, stops.0, ap (λ (l : List (List ℕ)). ms ++ l) stops.1, go, stops.2))
ends-parts (Broken e) number ms last none_left failed go stops = (stops, subst AllGoOn (sym (append-nil ms)) go)
ends-parts Failed number ms last none_left failed go stops = (refl, subst AllGoOn (sym (append-nil ms)) go, stops.1)

-- what was accounted for in a stricter sense of what is owed, up to order
module _ (owed : Owing) (defers : Bool) where
  each-part : (ms fs : List (List ℕ)) (ns marks : List Note) (outs lost : List Out) → AnsweredBy (answering owed defers) ms outs
      → Parts outs fs ns marks lost → OnePerMessage owed IsBroken 0 ms fs ns marks (length lost)
  each-part ms fs ns marks outs lost answered parts =
      OnePerMessage-weaken (answering owed defers) owed IsBroken (λ seq m out pays. pays.0) 0 ms fs ns marks (length lost)
      (OnePerMessage-parts (answering owed defers) IsBroken (λ seq m out pays broken. pays.2 broken) 0 ms fs ns marks outs lost answered parts)

  -- no mark came where no reply comes later
  none-marked : defers ≡ false → (ms fs : List (List ℕ)) (ns marks : List Note) (outs lost : List Out) → AnsweredBy (answering owed defers) ms outs
      → Parts outs fs ns marks lost → marks ≡ []
  none-marked never ms fs ns marks outs lost answered parts =
      Parts-prompt outs fs ns marks lost
      (Pairs-all (λ (p : ℕ × List ℕ) (o : Out). answering owed defers p.0 p.1 o) IsPrompt (λ asked out pays. pays.1 never) (numbered 0 ms) outs answered) parts

  module _ (ms : List (List ℕ)) (parcels : List Parcel) (b b' : RelayState) (answered : AnsweredBy (answering owed defers) ms (outs_of parcels))
      (relays : Relays parcels b b') (empty : IsBookOf b.book [] [] []) (fresh : EachWaiting is_own b.book) where
    abbrev parted : Split relays.gone (outs_of parcels) relays.sent relays.notes relays.marks relays.lost
    parted = split relays.outs relays.gone (outs_of parcels) relays.sent relays.notes relays.marks relays.lost relays.mixed relays.parts

    each : OnePerMessage owed IsBroken 0 ms parted.at_once relays.notes relays.marks (length parted.lost_at_once)
    each = each-part ms parted.at_once relays.notes relays.marks (outs_of parcels) parted.lost_at_once answered parted.parts

    book : IsBookOf b'.book relays.marks (map with_tag (lates_in parcels)) relays.gone
    book = relays.booked [] [] [] empty

    unmarked : defers ≡ false → relays.marks ≡ []
    unmarked never = none-marked never ms parted.at_once relays.notes relays.marks (outs_of parcels) parted.lost_at_once answered parted.parts

    -- no late frame was let go where no reply comes later
    none-late : defers ≡ false → relays.gone ≡ []
    none-late never = none-gone relays.gone (subst (λ (marks : List Tag). AreMatched marks (tags_of relays.gone)) (unmarked never)
        (IsBookOf-matches b'.book relays.marks (map with_tag (lates_in parcels)) relays.gone book))

    pub UpToOrder-prompt : defers ≡ false → UpToOrder owed IsBroken ms relays.sent relays.notes relays.lost
    UpToOrder-prompt never =
        subst (λ (l : List Note × List (List ℕ) × List Out). OnePerMessage owed IsBroken 0 ms l.1 relays.notes l.0 (length l.2))
        (λ i. (unmarked never i, sent i, missed i)) each
      where
        none : (parted.late ≡ []) × (parted.lost_late ≡ [])
        none = subst (λ (gone : List (Tag × LateSeen)). LeavesOut parted.lost_late (frames_gone gone) parted.late) (none-late never) parted.parted

        sent : parted.at_once ≡ relays.sent
        sent = LeavesOut-none relays.sent parted.at_once
            (subst (λ (late : List LateSeen). LeavesOut (bytes_of late) relays.sent parted.at_once) none.0 parted.sent)

        missed : parted.lost_at_once ≡ relays.lost
        missed = LeavesOut-none relays.lost parted.lost_at_once
            (subst (λ (late : List LateSeen). LeavesOut (map late_out late) relays.lost parted.lost_at_once) none.1 parted.missed)

    pub OnePerMessageLater-kept : OnePerMessageLater owed IsBroken ms relays.sent relays.notes relays.lost
    OnePerMessageLater-kept = record {
      at_once = parted.at_once;
      marks = relays.marks;
      lost_at_once = parted.lost_at_once;
      gone = frames_gone relays.gone;
      late = parted.late;
      lost_late = parted.lost_late;
      each = each;
      sent = parted.sent;
      missed = parted.missed;
      parted = parted.parted;
      replies = replies-gone relays.gone relays.replies;
      matched = gone-matched b'.book relays.marks (map with_tag (lates_in parcels)) relays.gone book (relays.own fresh).1;
    }

    let-go-by : (came : List LateSeen) → lates_in parcels ≡ came → (b'.book.unrecorded ≡ 0) ⊎ (defers ≡ false)
        → EachLetGo relays.marks came (frames_gone relays.gone)
    let-go-by came same (inl whole) =
        each-let_go b'.book relays.marks came relays.gone
        (subst (λ (l : List LateSeen). IsBookOf b'.book relays.marks (map with_tag l) relays.gone) same book) (relays.own fresh).1 whole
    let-go-by came same (inr never) =
        subst (λ (marks : List Note). EachLetGo marks came (frames_gone relays.gone)) (sym (unmarked never)) (none-unused came (frames_gone relays.gone))

    arrived-by : (came : List LateSeen) → lates_in parcels ≡ came → (b'.book.unrecorded ≡ 0) ⊎ (defers ≡ false)
        → All (Contains came) (frames_gone relays.gone)
    arrived-by came same (inl whole) =
        each-arrived b'.book relays.marks came relays.gone
        (subst (λ (l : List LateSeen). IsBookOf b'.book relays.marks (map with_tag l) relays.gone) same book) (relays.own fresh).1 whole
    arrived-by came same (inr never) =
        subst (λ (gone : List (Tag × LateSeen)). All (Contains came) (frames_gone gone)) (sym (none-late never)) (none-arrived came)

    pub NoneHeldBack-kept : (came : List LateSeen) (recorded : Type 0) → lates_in parcels ≡ came
        → (recorded → (b'.book.unrecorded ≡ 0) ⊎ (defers ≡ false)) → NoneHeldBack owed IsBroken came recorded ms relays.sent relays.notes relays.lost
    unfolding OnePerMessageLater-kept
    NoneHeldBack-kept came recorded same kept = record {
      one_per_message = OnePerMessageLater-kept;
      arrived = λ r. arrived-by came same (kept r);
      let_go = λ r. let-go-by came same (kept r);
    }

-- where replies come later what is counted is the book's
pub kept-by : (defers : Bool) (counted in_book : ℕ) → (defers ≡ true → counted ≡ in_book) → counted ≡ 0 → (in_book ≡ 0) ⊎ (defers ≡ false)
kept-by true counted in_book same none = inl (sym (same refl) ∙ none)
kept-by false counted in_book same none = inr refl

-- a run whose messages were taken and answered, accounted for in this way
module _ (owed : Owing) (defers : Bool) (stopped : Stopped) (a a' : IntakeState) (b b' : RelayState) (jobs : Hand Job) (frames : Hand Parcel)
    (conducts : Conducts (answering owed defers) stopped a a' b b' jobs frames) (none_taken : a.received ≡ 0) (none_sent : b.outlet.counts ≡ nothing_yet)
    (empty : IsBookOf b.book [] [] []) (fresh : EachWaiting is_own b.book) (unrecorded : ℕ) where
  abbrev relays : Relays conducts.parcels b b'
  relays = conducts.hands_on.relays

  abbrev ms : List (List ℕ)
  ms = conducts.hands_on.conducted.0

  abbrev hears : Hears stopped ms a a'
  hears = conducts.hands_on.conducted.1

  abbrev answered : List (List ℕ)
  answered = ms ++ answered_last stopped hears.last

  moved : Moves (length hears.turns) relays.sent relays.notes relays.lost (progress a.source b.outlet.sink nothing_yet [])
      (progress a'.source b'.outlet.sink (record b'.outlet.counts { received = a'.received; unrecorded = unrecorded }) (notices_in frames.taken))
  moved = Moves-counted (length hears.turns) a'.received unrecorded a.source a'.source b.outlet.sink b'.outlet.sink b.outlet.counts b'.outlet.counts
      (notices_in frames.taken)
      (subst (λ (l : List (List ℕ)). Moves 0 relays.sent relays.notes relays.lost (progress a.source b.outlet.sink b.outlet.counts [])
      (progress a.source b'.outlet.sink b'.outlet.counts l)) conducts.same_notices (relays.moved a.source []))
      none_sent (hears.received 0 none_taken ∙ ap number_of (omega (arith)))

  run : (accounted : Accounting) → accounted answered relays.sent relays.notes relays.lost
      → Run accounted (end_of stopped) (progress a.source b.outlet.sink nothing_yet [])
      (progress a'.source b'.outlet.sink (record b'.outlet.counts { received = a'.received; unrecorded = unrecorded }) (notices_in frames.taken))
  run accounted order = record {
    turns = hears.turns;
    answered = answered;
    refused = refused_last stopped hears.last;
    sent = relays.sent;
    notes = relays.notes;
    lost = relays.lost;
    heard = hears.heard ∙ heard-parts stopped (number_of (length ms)) ms hears.last (NothingLeft a'.source) (SourceFailed a.source a'.source) hears.stops;
    order = order;
    moved = moved;
    begins = hears.begins;
    taken = λ other. hears.taken (λ is. other (ap end_of is));
    ended = ends-parts stopped (number_of (length ms)) ms hears.last (NothingLeft a'.source) (SourceFailed a.source a'.source) hears.go_on hears.stops;
  }

  pub Run-prompt : defers ≡ false → Run (UpToOrder owed IsBroken) (end_of stopped) (progress a.source b.outlet.sink nothing_yet [])
      (progress a'.source b'.outlet.sink (record b'.outlet.counts { received = a'.received; unrecorded = unrecorded }) (notices_in frames.taken))
  Run-prompt never =
      run (UpToOrder owed IsBroken) (UpToOrder-prompt owed defers answered conducts.parcels b b' conducts.hands_on.conducted.2 relays empty fresh never)

  pub Run-later : (recorded : Type 0) → (recorded → (b'.book.unrecorded ≡ 0) ⊎ (defers ≡ false))
      → Run (NoneHeldBack owed IsBroken (lates_in frames.taken) recorded) (end_of stopped) (progress a.source b.outlet.sink nothing_yet [])
      (progress a'.source b'.outlet.sink (record b'.outlet.counts { received = a'.received; unrecorded = unrecorded }) (notices_in frames.taken))
  Run-later recorded kept =
      run (NoneHeldBack owed IsBroken (lates_in frames.taken) recorded)
      (NoneHeldBack-kept owed defers answered conducts.parcels b b' conducts.hands_on.conducted.2 relays empty fresh (lates_in frames.taken) recorded
      conducts.same_late kept)
