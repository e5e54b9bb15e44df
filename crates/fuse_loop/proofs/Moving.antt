-- What stretches of a session move, one after another.
use Rattle.std.proofs.Common.{◌≡◌, ◌≤◌, ◌<◌, ◌+◌, ◌++◌, ℕ, List, [], ◌∷◌, ◌∙◌, ap, inl, inr, map}
use Rattle.std.proofs.Common.{arith, length, length-append, append-nil, append_assoc, subst, sym, refl, Bool, true, false, not, cond}
use Rattle.std.proofs.lemmas.List.{map-append, nil_from_length}
use Rattle.std.specs.Prelude.{filter}
use Rattle.fuse_wire.specs.Faults.{counted, last_count}
use Rattle.fuse_wire.specs.Sink.{SinkState, Note, Puts, Refuses, RefusesFrame, Appends, Sends}
use Rattle.fuse_wire.specs.declared.sink.Sending.{Sending}
use Rattle.fuse_wire.specs.declared.sink.Sending.TheVariants.{Sent, Absent, Failed}
use Rattle.fuse_wire.specs.declared.newtypes.RequestId.{RequestId}
use Rattle.fuse_wire.proofs.Devices.{Appends-none, Appends-then}
use Rattle.fuse_reply.specs.Frame.{is_set_aside}
use Rattle.fuse_reply.specs.Notice.{IsNoticeFrame}
use Rattle.fuse_reply.specs.declared.out.Out.{Out}
use Rattle.fuse_reply.specs.declared.out.Out.TheVariants.{Frame, Note as Noting}
use Rattle.fuse_reply.specs.declared.out.OutEnd.{OutEnd}
use Rattle.fuse_reply.specs.declared.out.OutEnd.TheVariants.{Written, Noted, Lost, Marked}
use Rattle.fuse_reply.specs.Deliver.{Delivers, LeavesTail}
use Rattle.fuse_reply.proofs.Tails.{LeavesTail-then}
use Rattle.fuse_loop.specs.Progress.{Progress, ChannelState, Moves, PassesOn, LeavesOut, SinkUntouched, DeliversOnce, NoticeOrReply}
use Rattle.fuse_loop.specs.Progress.{NoticesAlone, beside, but_unrecorded, tally, counting, replies, notices, is_notice}
use Rattle.fuse_loop.specs.declared.transcript.Transcript.{Transcript}
use Rattle.fuse_loop.proofs.ItemLists.{All-append, filter-both}

-- equal counts make equal transcripts
tally-same : (r f n l r' f' n' l' : ℕ) → r ≡ r' → f ≡ f' → n ≡ n' → l ≡ l' → tally r f n l ≡ tally r' f' n' l'
tally-same r f n l r' f' n' l' a b c d = cc

-- what is appended to the same sink
none-appended : {s t : SinkState} → t ≡ s → Appends [] [] s t
none-appended {s} same = subst (λ (x : SinkState). Appends [] [] s x) (sym same) (Appends-none s)

-- items of which some were left out, and then others
pub LeavesOut-append : {A : Type 0} (js ks fs gs ws vs : List A) → LeavesOut js fs ws → LeavesOut ks gs vs → LeavesOut (js ++ ks) (fs ++ gs) (ws ++ vs)
LeavesOut-append {A} js ks [] gs ws vs first second =
    subst (λ (w : List A). LeavesOut (js ++ ks) gs w) (sym (ap (λ (x : List A). x ++ vs) first.0))
    (subst (λ (j : List A). LeavesOut j gs vs) (sym (ap (λ (x : List A). x ++ ks) first.1)) second)
LeavesOut-append {A} js ks (f ∷ fs) gs ws vs (inl p) second =
    inl (p.0 ++ vs, ap (λ (x : List A). x ++ vs) p.1, LeavesOut-append js ks fs gs p.0 vs p.2 second)
LeavesOut-append {A} js ks (f ∷ fs) gs ws vs (inr p) second =
    inr (p.0 ++ ks, ap (λ (x : List A). x ++ ks) p.1, LeavesOut-append p.0 ks fs gs ws vs p.2 second)

-- no notice was taken off the line, where those appended and refused are none
PassesOn-none : (appended : List (List ℕ)) (refused : List Out) {before after : List (List ℕ)} → after ≡ before
    → notices appended ≡ [] → filter is_notice refused ≡ [] → PassesOn appended refused before after
PassesOn-none appended refused {before} {after} same written lost = record {
  taken = [];
  dropped = [];
  line = same ∙ sym (append-nil before);
  each = (written, refl);
  all_dropped = lost;
}

-- these were passed on, and then those
PassesOn-then : (fs gs : List (List ℕ)) (js ls : List Out) {p q r : List (List ℕ)}
    → PassesOn fs js p q → PassesOn gs ls q r → PassesOn (fs ++ gs) (js ++ ls) p r
PassesOn-then fs gs js ls {p} {q} {r} first second = record {
  taken = first.taken ++ second.taken;
  dropped = first.dropped ++ second.dropped;
  line = second.line ∙ (ap (λ (x : List (List ℕ)). x ++ second.taken) first.line ∙ append_assoc p first.taken second.taken);
  each = subst (λ (x : List (List ℕ)). LeavesOut (first.dropped ++ second.dropped) (first.taken ++ second.taken) x)
      (sym (filter-both is_set_aside fs gs))
      (LeavesOut-append first.dropped second.dropped first.taken second.taken (notices fs) (notices gs) first.each second.each);
  all_dropped = filter-both is_notice js ls ∙ (ap (λ (x : List Out). x ++ filter is_notice ls) first.all_dropped
      ∙ (ap (λ (x : List Out). map Frame first.dropped ++ x) second.all_dropped ∙ sym (map-append Frame first.dropped second.dropped)));
}

-- nothing moved
pub Moves-none : {p q : Progress} → SinkUntouched p q → Moves 0 [] [] [] p q
Moves-none {p} {q} same = record {
  appended = [];
  refused = [];
  written = none-appended same.sink;
  replied = refl;
  missed = refl;
  set_aside = tt;
  passed_on = PassesOn-none [] [] same.unasked refl refl;
  tail = ap (λ (s : SinkState). s.tail) same.sink;
  cause = λ below. omega (arith, ap (λ (s : SinkState). s.faults) same.sink);
  counts = λ r f n l is.
      ap but_unrecorded same.counts ∙ (is ∙ tally-same r f n l (r + 0) (f + 0) (n + 0) (l + 0) (omega arith) (omega arith) (omega arith) (omega arith));
}

-- one message was taken
pub Moves-received : (p q : Progress) → q.sink ≡ p.sink → q.counts ≡ record p.counts { received = counted p.counts.received 1 }
    → q.unasked ≡ p.unasked → Moves 1 [] [] [] p q
Moves-received p q same e line = record {
  appended = [];
  refused = [];
  written = none-appended same;
  replied = refl;
  missed = refl;
  set_aside = tt;
  passed_on = PassesOn-none [] [] line refl refl;
  tail = ap (λ (s : SinkState). s.tail) same;
  cause = λ below. omega (arith, ap (λ (s : SinkState). s.faults) same);
  counts = λ r f n l is. ap but_unrecorded e ∙ (ap (λ (u : Transcript). record u { received = counted u.received 1 }) is ∙ more r f n l);
} where
  more : (r f n l : ℕ) → record (tally r f n l) { received = counted (tally r f n l).received 1 } ≡ tally (r + 1) (f + 0) (n + 0) (l + 0)
  more r f n l =
      let a : counted (tally r f n l).received 1 ≡ (tally (r + 1) f n l).received = omega arith in
      let b : f + 0 ≡ f = omega arith in
      let c : n + 0 ≡ n = omega arith in
      let d : l + 0 ≡ l = omega arith in cc

-- one stretch, and then another
pub Moves-then : {i k : ℕ} {fs gs : List (List ℕ)} {ns ms : List Note} {js ls : List Out} {p q r : Progress}
    → Moves i fs ns js p q → Moves k gs ms ls q r → Moves (i + k) (fs ++ gs) (ns ++ ms) (js ++ ls) p r
Moves-then {i} {k} {fs} {gs} {ns} {ms} {js} {ls} {p} {q} {r} first second = record {
  appended = first.appended ++ second.appended;
  refused = first.refused ++ second.refused;
  written = Appends-then first.appended second.appended ns ms p.sink q.sink r.sink first.written second.written;
  replied = filter-both (λ (f : List ℕ). not (is_set_aside f)) first.appended second.appended
      ∙ (ap (λ (x : List (List ℕ)). x ++ replies second.appended) first.replied ∙ ap (λ (x : List (List ℕ)). fs ++ x) second.replied);
  missed = filter-both (λ (out : Out). not (is_notice out)) first.refused second.refused
      ∙ (ap (λ (x : List Out). x ++ filter (λ (out : Out). not (is_notice out)) second.refused) first.missed
      ∙ ap (λ (x : List Out). js ++ x) second.missed);
  set_aside = All-append NoticeOrReply first.appended second.appended first.set_aside second.set_aside;
  passed_on = PassesOn-then first.appended second.appended first.refused second.refused first.passed_on second.passed_on;
  tail = LeavesTail-then first.refused second.refused p.sink.tail q.sink.tail r.sink.tail first.tail second.tail;
  cause = λ below.
      let later : length second.refused + q.sink.faults ≤ r.sink.faults = second.cause below in
      let rises : q.sink.faults ≤ r.sink.faults = second.written.faults in
      let mid : q.sink.faults < last_count = omega arith in
      let sooner : length first.refused + p.sink.faults ≤ q.sink.faults = first.cause mid in
      omega (arith, length-append first.refused second.refused);
  counts = λ a b c d is.
      second.counts (a + i) (b + length fs) (c + length ns) (d + length js) (first.counts a b c d is)
      ∙ tally-same _ _ _ _ _ _ _ _ (omega arith)
      (omega (arith, length-append fs gs)) (omega (arith, length-append ns ms)) (omega (arith, length-append js ls));
}

-- something was handed to the sink, which took it as these frames and notes, or lost it
pub data Handed (out : Out) (fs : List (List ℕ)) (ns : List Note) (p q : Progress) : Type 0 where
  took : Moves 0 fs ns [] p q → Handed out fs ns p q
  lost : Moves 0 [] [] (out ∷ []) p q → Handed out fs ns p q

one_frame : (r f n l : ℕ) → record (tally r f n l) { frames = counted (tally r f n l).frames 1 } ≡ tally (r + 0) (f + 1) (n + 0) (l + 0)
one_frame r f n l =
    let a : counted (tally r f n l).frames 1 ≡ (tally r (f + 1) n l).frames = omega arith in
    let b : r + 0 ≡ r = omega arith in
    let c : n + 0 ≡ n = omega arith in
    let d : l + 0 ≡ l = omega arith in cc

one_note : (r f n l : ℕ) → record (tally r f n l) { notes = counted (tally r f n l).notes 1 } ≡ tally (r + 0) (f + 0) (n + 1) (l + 0)
one_note r f n l =
    let a : counted (tally r f n l).notes 1 ≡ (tally r f (n + 1) l).notes = omega arith in
    let b : r + 0 ≡ r = omega arith in
    let c : f + 0 ≡ f = omega arith in
    let d : l + 0 ≡ l = omega arith in cc

one_lost : (r f n l : ℕ) → record (tally r f n l) { lost = counted (tally r f n l).lost 1 } ≡ tally (r + 0) (f + 0) (n + 0) (l + 1)
one_lost r f n l =
    let a : counted (tally r f n l).lost 1 ≡ (tally r f n (l + 1)).lost = omega arith in
    let b : r + 0 ≡ r = omega arith in
    let c : n + 0 ≡ n = omega arith in
    let d : f + 0 ≡ f = omega arith in cc

-- what is no notice is lost where it is refused
refused-one : (p : Out → Bool) (out : Out) (b : Bool) → p out ≡ b → filter p (out ∷ []) ≡ cond b (out ∷ []) []
refused-one p out b is = ap (λ (c : Bool). cond c (out ∷ []) []) is

-- what was refused was lost
pub Moves-refused : {out : Out} (p q : Progress) → is_notice out ≡ false → Refuses p.sink q.sink
    → LeavesTail (out ∷ []) p.sink.tail q.sink.tail → q.counts ≡ counting Lost p.counts → q.unasked ≡ p.unasked → Moves 0 [] [] (out ∷ []) p q
Moves-refused {out} p q reply d ends e line = record {
  appended = [];
  refused = out ∷ [];
  written = d.0;
  replied = refl;
  missed = refused-one (λ (o : Out). not (is_notice o)) out true (ap not reply);
  set_aside = tt;
  passed_on = PassesOn-none [] (out ∷ []) line refl (refused-one is_notice out false reply);
  tail = ends;
  cause = λ below. omega (arith, d.1 below);
  counts = λ r g n l is. ap but_unrecorded e ∙ (ap (λ (w : Transcript). record w { lost = counted w.lost 1 }) is ∙ one_lost r g n l);
}

-- a reply alone is what is not set aside
replies-one : (f : List ℕ) → is_set_aside f ≡ false → replies (f ∷ []) ≡ f ∷ []
replies-one f reply = ap (λ (b : Bool). cond (not b) (f ∷ []) []) reply

-- a frame was written
pub Moves-frame : {f : List ℕ} (p q : Progress) → is_set_aside f ≡ false → Puts (f ∷ []) [] p.sink q.sink → q.counts ≡ counting Written p.counts
    → q.unasked ≡ p.unasked → Moves 0 (f ∷ []) [] [] p q
Moves-frame {f} p q reply puts e line = record {
  appended = f ∷ [];
  refused = [];
  written = puts.0;
  replied = replies-one f reply;
  missed = refl;
  passed_on = PassesOn-none (f ∷ []) [] line (ap (λ (b : Bool). cond b (f ∷ []) []) reply) refl;
  set_aside = ((λ aside. absurd (let no : ⊥ = cc in no)), tt);
  tail = puts.1;
  cause = λ below. omega (arith, puts.0.faults);
  counts = λ r g n l is. ap but_unrecorded e ∙ (ap (λ (w : Transcript). record w { frames = counted w.frames 1 }) is ∙ one_frame r g n l);
}

-- a note was written
pub Moves-note : {note : Note} (p q : Progress) → Puts [] (note ∷ []) p.sink q.sink → q.counts ≡ counting Noted p.counts → q.unasked ≡ p.unasked
    → Moves 0 [] (note ∷ []) [] p q
Moves-note p q puts e line = record {
  appended = [];
  refused = [];
  written = puts.0;
  replied = refl;
  missed = refl;
  set_aside = tt;
  passed_on = PassesOn-none [] [] line refl refl;
  tail = puts.1;
  cause = λ below. omega (arith, puts.0.faults);
  counts = λ r g n l is. ap but_unrecorded e ∙ (ap (λ (w : Transcript). record w { notes = counted w.notes 1 }) is ∙ one_note r g n l);
}

-- a frame was handed to the sink
pub Handed-frame : {f : List ℕ} {a b : ChannelState} → DeliversOnce (Frame f) a b → Handed (Frame f) (f ∷ []) [] a.progress b.progress
Handed-frame {f} {a} {b} hands = by_end hands.end hands.delivered hands.counts where
  by_end : (end : OutEnd) → Delivers end (Frame f) a.progress.sink b.progress.sink → b.progress.counts ≡ counting end a.progress.counts
      → Handed (Frame f) (f ∷ []) [] a.progress b.progress
  by_end Written puts e = took (Moves-frame a.progress b.progress hands.reply puts e hands.unasked)
  by_end Noted d e = absurd d
  by_end Lost d e = lost (Moves-refused a.progress b.progress hands.reply d.0 d.1 e hands.unasked)
  by_end Marked d e = absurd d

-- a note was handed to the sink
pub Handed-note : {id : RequestId} {mark : ℕ} {a b : ChannelState} → DeliversOnce (Noting id mark) a b
    → Handed (Noting id mark) [] ((id.0, mark) ∷ []) a.progress b.progress
Handed-note {id} {mark} {a} {b} hands = by_end hands.end hands.delivered hands.counts where
  by_end : (end : OutEnd) → Delivers end (Noting id mark) a.progress.sink b.progress.sink → b.progress.counts ≡ counting end a.progress.counts
      → Handed (Noting id mark) [] ((id.0, mark) ∷ []) a.progress b.progress
  by_end Written d e = absurd d
  by_end Noted puts e = took (Moves-note a.progress b.progress puts e hands.unasked)
  by_end Lost d e = lost (Moves-refused a.progress b.progress refl d.0 d.1 e hands.unasked)
  by_end Marked d e = absurd d

-- one stretch, and then another, by the turns that they took
pub moves-then : {fs gs : List (List ℕ)} {ns ms : List Note} {js ls : List Out} {p q r : Progress} (xs ys : List (List ℕ))
    → Moves (length xs) fs ns js p q → Moves (length ys) gs ms ls q r → Moves (length (xs ++ ys)) (fs ++ gs) (ns ++ ms) (js ++ ls) p r
moves-then {fs} {gs} {ns} {ms} {js} {ls} {p} {q} {r} xs ys first second =
    subst (λ (n : ℕ). Moves n (fs ++ gs) (ns ++ ms) (js ++ ls) p r) (sym (length-append xs ys)) (Moves-then first second)

-- the reply of none is among the notices
notice-alone : (f : List ℕ) → is_set_aside f ≡ true → (replies (f ∷ []) ≡ []) × (notices (f ∷ []) ≡ f ∷ [])
notice-alone f aside = (ap (λ (b : Bool). cond (not b) (f ∷ []) []) aside, ap (λ (b : Bool). cond b (f ∷ []) []) aside)

unchanged : (p q : Progress) → q.counts ≡ p.counts → (r f n l : ℕ) → but_unrecorded p.counts ≡ tally r f n l
    → but_unrecorded q.counts ≡ tally (r + 0) (f + 0) (n + 0) (l + 0)
unchanged p q same r f n l is =
    ap but_unrecorded same ∙ (is ∙ tally-same r f n l (r + 0) (f + 0) (n + 0) (l + 0) (omega arith) (omega arith) (omega arith) (omega arith))

-- a notice was taken off the line, and refused
notice-refused : (f : List ℕ) (p q : Progress) → is_set_aside f ≡ true → RefusesFrame f p.sink q.sink
    → q.counts ≡ p.counts → q.unasked ≡ p.unasked ++ f ∷ [] → Moves 0 [] [] [] p q
notice-refused f p q aside d same line = record {
  appended = [];
  refused = Frame f ∷ [];
  written = d.0.0;
  replied = refl;
  missed = refused-one (λ (o : Out). not (is_notice o)) (Frame f) false (ap not aside);
  set_aside = tt;
  passed_on = record {
    taken = f ∷ [];
    dropped = f ∷ [];
    line = line;
    each = inr ([], refl, (refl, refl));
    all_dropped = refused-one is_notice (Frame f) true aside;
  };
  tail = d.1;
  cause = λ below. omega (arith, d.0.1 below);
  counts = unchanged p q same;
}

-- a notice was taken off the line, and the sink took it or refused it
pub Moves-notice : (end : Sending) (f : List ℕ) (p q : Progress) → IsNoticeFrame f → is_set_aside f ≡ true → Sends end f p.sink q.sink
    → q.counts ≡ p.counts → q.unasked ≡ p.unasked ++ f ∷ [] → Moves 0 [] [] [] p q
Moves-notice Sent f p q is aside sends same line = record {
  appended = f ∷ [];
  refused = [];
  written = sends.0.0;
  replied = (notice-alone f aside).0;
  missed = refl;
  set_aside = ((λ _. (is.notice_of, is.in_range, is.is_notice)), tt);
  passed_on = record {
    taken = f ∷ [];
    dropped = [];
    line = line;
    each = inl ([], (notice-alone f aside).1, (refl, refl));
    all_dropped = refl;
  };
  tail = sends.0.1;
  cause = λ below. omega (arith, sends.0.0.faults);
  counts = unchanged p q same;
}
Moves-notice Absent f p q is aside sends same line = notice-refused f p q aside sends.0 same line
Moves-notice Failed f p q is aside sends same line = notice-refused f p q aside sends.0 same line

-- no notice waited
pub NoticesAlone-none : (p : Progress) → NoticesAlone p p
NoticesAlone-none p = record { moved = Moves-none (record { sink = refl; counts = refl; unasked = refl }); source = refl }

-- one notice more
pub NoticesAlone-next : (end : Sending) (f : List ℕ) (p q r : Progress) → NoticesAlone p q → IsNoticeFrame f → is_set_aside f ≡ true
    → Sends end f q.sink r.sink → r.counts ≡ q.counts → r.unasked ≡ q.unasked ++ f ∷ [] → r.source ≡ q.source → NoticesAlone p r
NoticesAlone-next end f p q r so_far is aside sends counts line source =
    record { moved = Moves-then so_far.moved (Moves-notice end f q r is aside sends counts line); source = source ∙ so_far.source }

-- a stretch between whose ends nothing was taken off the line is the same beside any notices that were taken before
pub Moves-beside : {received : ℕ} {sent : List (List ℕ)} {notes : List Note} {lost : List Out} (p q : Progress) (unasked : List (List ℕ))
    → q.unasked ≡ p.unasked → Moves received sent notes lost p q → Moves received sent notes lost (beside p unasked) (beside q unasked)
Moves-beside p q unasked same moved = record {
  appended = moved.appended;
  refused = moved.refused;
  written = moved.written;
  replied = moved.replied;
  missed = moved.missed;
  set_aside = moved.set_aside;
  passed_on = record {
    taken = moved.passed_on.taken;
    dropped = moved.passed_on.dropped;
    line = sym (ap (λ (x : List (List ℕ)). unasked ++ x) none ∙ append-nil unasked);
    each = moved.passed_on.each;
    all_dropped = moved.passed_on.all_dropped;
  };
  tail = moved.tail;
  cause = moved.cause;
  counts = moved.counts;
} where
  none : moved.passed_on.taken ≡ []
  none = nil_from_length moved.passed_on.taken (omega (
    arith,
    length-append p.unasked moved.passed_on.taken,
    ap (λ (x : List (List ℕ)). length x) (sym moved.passed_on.line ∙ same),
  ))
