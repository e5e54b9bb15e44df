-- Turns of the event loop, one after another.
use Rattle.std.proofs.Common.{◌≡◌, ◌+◌, ◌++◌, ℕ, List, [], ◌∷◌, sym, ◌∙◌, ap, Option, None, Some, append-nil, arith}
use Rattle.std.proofs.Common.{subst, refl, length, length-append, map, take, append_assoc, Bool, false, Err, Ok, zero-add}
use Rattle.std.proofs.lemmas.List.{map-append, length-map}
use Rattle.fuse_wire.specs.Source.{SourceState, Takes, message, NothingLeft, SourceFailed}
use Rattle.fuse_wire.specs.Sink.{Note}
use Rattle.fuse_wire.proofs.Devices.{Takes-none, Takes-then}
use Rattle.fuse_header.specs.declared.error.RequestError.{RequestError}
use Rattle.fuse_header.specs.Header.{header}
use Rattle.fuse_header.specs.Opcode.{FUSE_DESTROY}
use Rattle.fuse_header.specs.declared.header.Header.{Header}
use Rattle.fuse_reply.specs.declared.door.NoDoor.TheVariants.{Shut}
use Rattle.std.specs.Prelude.{if◌then◌else◌, ◌==◌}
use Rattle.fuse_reply.specs.declared.out.Out.{Out}
use Rattle.fuse_reply.specs.declared.out.Out.TheVariants.{Frame, Note as Noting, Deferred}
use Rattle.fuse_core.specs.OnePerMessage.{Owing, InOrder, number_of}
use Rattle.fuse_loop.specs.Answering.{IsRequest, MayComeLater}
use Rattle.fuse_loop.specs.Incoming.{AllGoOn, IsBroken, incoming, incoming_by}
use Rattle.fuse_loop.specs.Incoming.{Incoming}
use Rattle.fuse_loop.specs.Incoming.Incoming.{Destroy, Request}
use Rattle.fuse_loop.specs.Progress.{Progress, ChannelState, TakesNext, Moves, NoticesAlone, DeliversOnce, IsPrompt, beside}
use Rattle.fuse_loop.specs.EventLoop.{Run, RunOn, RunEnds, OneTurn}
use Rattle.fuse_loop.specs.declared.taken.Taken.TheVariants.{Message, Gone as NoneLeft, Failed as NoneCame}
use Rattle.fuse_loop.specs.declared.end.End.{End}
use Rattle.fuse_loop.specs.declared.end.End.TheVariants.{Gone, Destroyed, Broken, Failed}
use Rattle.fuse_loop.proofs.ItemLists.{All-append}
use Rattle.fuse_loop.proofs.Taking.{Begins-none, Begins-from_takes, Begins-after, SourceFailed-after}
use Rattle.fuse_loop.proofs.Moving.{Moves-none, Moves-received, Moves-then, Moves-beside, moves-then, Handed, Handed-frame, Handed-note, took, lost}
use Rattle.fuse_loop.proofs.Order.{InOrder-framed, InOrder-noted, InOrder-lost, InOrder-append}

-- no message was left
pub Run-gone : (owed : Owing) (place : ℕ) (a b : ChannelState) → TakesNext NoneLeft a b → Run (InOrder owed place) Gone a.progress b.progress
Run-gone owed place a b next = record {
  turns = [];
  answered = [];
  refused = [];
  sent = [];
  notes = [];
  lost = [];
  heard = refl;
  order = (refl, refl, refl);
  moved = Moves-none next.2;
  begins = Begins-none a.progress.source;
  taken = λ _. next.0;
  ended = (refl, tt, next.1);
}

-- the source failed
pub Run-failed : (owed : Owing) (place : ℕ) (a b : ChannelState) → TakesNext NoneCame a b → Run (InOrder owed place) Failed a.progress b.progress
Run-failed owed place a b next = record {
  turns = [];
  answered = [];
  refused = [];
  sent = [];
  notes = [];
  lost = [];
  heard = refl;
  order = (refl, refl, refl);
  moved = Moves-none next.1;
  begins = Begins-none a.progress.source;
  taken = λ other. absurd (other refl);
  ended = (refl, tt, next.0);
}

-- a message without a good header came
pub Run-broken : (owed : Owing) (place : ℕ) {e : RequestError} (n : ℕ) (a b : ChannelState) → TakesNext (Message n) a b
    → header (take n b.buffer) ≡ Err e → Run (InOrder owed place) (Broken e) a.progress b.progress
Run-broken owed place {e} n a b next broken = record {
  turns = next.0.turn ∷ [];
  answered = [];
  refused = message next.0.turn ∷ [];
  sent = [];
  notes = [];
  lost = [];
  heard = refl;
  order = (refl, refl, refl);
  moved = Moves-received a.progress b.progress next.1 next.2 next.3;
  begins = Begins-from_takes (next.0.turn ∷ []) a.progress.source b.progress.source next.0.taken;
  taken = λ _. next.0.taken;
  ended = ((message next.0.turn, refl, subst (λ (m : List ℕ). header m ≡ Err e) next.0.bytes broken), tt);
}

-- what one answered message gives
record Paid (owed : Owing) (place : ℕ) (turn : List ℕ) (p q : Progress) : Type 0 where
  sent : List (List ℕ)
  notes : List Note
  lost : List Out
  order : InOrder owed place (message turn ∷ []) sent notes lost
  moved : Moves 1 sent notes lost p q
  taken : Takes (turn ∷ []) p.source q.source

-- a message was taken, and what it is owed was handed to the sink
paid-handed : {owed : Owing} {place : ℕ} {out : Out} (n : ℕ) (a b c : ChannelState) (fs : List (List ℕ)) (ns : List Note)
    (next : TakesNext (Message n) a b) → InOrder owed place (message next.0.turn ∷ []) fs ns [] → owed (number_of place) (message next.0.turn) out
    → c.progress.source ≡ b.progress.source → Handed out fs ns b.progress c.progress → Paid owed place next.0.turn a.progress c.progress
paid-handed {owed} {place} {out} n a b c fs ns next order owes same handed =
    elim handed as (λ _. Paid owed place next.0.turn a.progress c.progress) [
      | took moved ↦ record {
        sent = fs;
        notes = ns;
        lost = [];
        order = order;
        moved = Moves-then (Moves-received a.progress b.progress next.1 next.2 next.3) moved;
        taken = taken;
      }
      | lost moved ↦ record {
        sent = [];
        notes = [];
        lost = out ∷ [];
        order = InOrder-lost owed place (message next.0.turn) out owes;
        moved = Moves-then (Moves-received a.progress b.progress next.1 next.2 next.3) moved;
        taken = taken;
      }
    ]
  where
    taken : Takes (next.0.turn ∷ []) a.progress.source c.progress.source
    taken = subst (λ (s : SourceState). Takes (next.0.turn ∷ []) a.progress.source s) (sym same) next.0.taken

-- a message was taken, and a frame or note that it is owed was handed to the sink
paid : (owed : Owing) (place seq n : ℕ) (a b c : ChannelState) (out : Out) (next : TakesNext (Message n) a b) → number_of place ≡ seq
    → owed seq (message next.0.turn) out → IsPrompt out → DeliversOnce out b c → Paid owed place next.0.turn a.progress c.progress
paid owed place seq n a b c (Frame f) next number owes prompt hands =
    let is : owed (number_of place) (message next.0.turn) (Frame f) = subst (λ (i : ℕ). owed i (message next.0.turn) (Frame f)) (sym number) owes in
    paid-handed n a b c (f ∷ []) [] next (InOrder-framed owed place (message next.0.turn) f is) is hands.source (Handed-frame hands)
paid owed place seq n a b c (Noting id mark) next number owes prompt hands =
    let is : owed (number_of place) (message next.0.turn) (Noting id mark) =
    subst (λ (i : ℕ). owed i (message next.0.turn) (Noting id mark)) (sym number) owes in
    paid-handed n a b c [] ((id.0, mark) ∷ []) next (InOrder-noted owed place (message next.0.turn) (id.0, mark) is) is hands.source (Handed-note hands)
paid owed place seq n a b c (Deferred late id) next number owes prompt hands = absurd prompt

-- DESTROY was answered
pub Run-destroyed : (owed : Owing) (place seq n : ℕ) (a b c : ChannelState) (out : Out) (next : TakesNext (Message n) a b) → number_of place ≡ seq
    → incoming (take n b.buffer) ≡ Destroy → owed seq (take n b.buffer) out → IsPrompt out → DeliversOnce out b c
    → Run (InOrder owed place) Destroyed a.progress c.progress
Run-destroyed owed place seq n a b c out next number last owes prompt hands =
    let turn = next.0.turn in
    let p : Paid owed place turn a.progress c.progress =
    paid owed place seq n a b c out next number (subst (λ (m : List ℕ). owed seq m out) next.0.bytes owes) prompt hands in
    record {
      turns = turn ∷ [];
      answered = message turn ∷ [];
      refused = [];
      sent = p.sent;
      notes = p.notes;
      lost = p.lost;
      heard = refl;
      order = p.order;
      moved = p.moved;
      begins = Begins-from_takes (turn ∷ []) a.progress.source c.progress.source p.taken;
      taken = λ _. p.taken;
      ended = (refl, ([], message turn, refl, tt, subst (λ (m : List ℕ). incoming m ≡ Destroy) next.0.bytes last));
    }

-- a request was answered, and the run goes on
pub RunOn-next : (owed : Owing) (place seq n : ℕ) (a b c : ChannelState) (out : Out) (next : TakesNext (Message n) a b) → number_of place ≡ seq
    → incoming (take n b.buffer) ≡ Request → owed seq (take n b.buffer) out → IsPrompt out → DeliversOnce out b c
    → (run : RunOn owed place a.progress c.progress) × (length run.turns ≡ 1)
RunOn-next owed place seq n a b c out next number goes owes prompt hands =
    let turn = next.0.turn in
    let p : Paid owed place turn a.progress c.progress =
    paid owed place seq n a b c out next number (subst (λ (m : List ℕ). owed seq m out) next.0.bytes owes) prompt hands in (
      record {
        turns = turn ∷ [];
        sent = p.sent;
        notes = p.notes;
        lost = p.lost;
        order = p.order;
        moved = p.moved;
        taken = p.taken;
        go_on = (subst (λ (m : List ℕ). incoming m ≡ Request) next.0.bytes goes, tt);
      },
      refl,
    )

-- a stretch, and then notices alone
Moves-noticed : {received : ℕ} {sent : List (List ℕ)} {notes : List Note} {lost : List Out} {p q r : Progress}
    → Moves received sent notes lost p q → NoticesAlone q r → Moves received sent notes lost p r
Moves-noticed {received} {sent} {notes} {lost} {p} {q} {r} moved noticed =
    subst (λ (n : ℕ). Moves n sent notes lost p r) (omega arith)
    (subst (λ (l : List Out). Moves (received + 0) sent notes l p r) (append-nil lost)
    (subst (λ (n : List Note). Moves (received + 0) sent n (lost ++ []) p r) (append-nil notes)
    (subst (λ (f : List (List ℕ)). Moves (received + 0) f (notes ++ []) (lost ++ []) p r) (append-nil sent) (Moves-then moved noticed.moved))))

-- a turn is the same where notices are sent after it
OneTurn-noticed : (owed : Owing) (seq : ℕ) (found : Option End) (p q r : Progress) → OneTurn owed seq found p q → NoticesAlone q r
    → OneTurn owed seq found p r
OneTurn-noticed owed seq None p q r turn noticed = λ place number.
    let t = turn place number in (
      record {
        turns = t.0.turns;
        sent = t.0.sent;
        notes = t.0.notes;
        lost = t.0.lost;
        order = t.0.order;
        moved = Moves-noticed t.0.moved noticed;
        taken = subst (λ (s : SourceState). Takes t.0.turns p.source s) (sym noticed.source) t.0.taken;
        go_on = t.0.go_on;
      },
      t.1,
    )
OneTurn-noticed owed seq (Some end) p q r turn noticed = λ place number.
    let t : Run (InOrder owed place) end p q = turn place number in
    record {
      turns = t.turns;
      answered = t.answered;
      refused = t.refused;
      sent = t.sent;
      notes = t.notes;
      lost = t.lost;
      heard = t.heard;
      order = t.order;
      moved = Moves-noticed t.moved noticed;
      begins = t.begins;
      taken = λ other. subst (λ (s : SourceState). Takes t.turns p.source s) (sym noticed.source) (t.taken other);
      ended = subst (λ (s : SourceState). RunEnds end t.answered t.refused (NothingLeft s) (SourceFailed p.source s)) (sym noticed.source) t.ended;
    }

-- so is one of which it is known how it ended
pub OneTurn-known : (owed : Owing) (seq : ℕ) (found known : Option End) (p q r : Progress) → found ≡ known → OneTurn owed seq found p q
    → NoticesAlone q r → OneTurn owed seq known p r
OneTurn-known owed seq found known p q r is turn noticed =
    subst (λ (ended : Option End). OneTurn owed seq ended p r) is (OneTurn-noticed owed seq found p q r turn noticed)

-- nothing was taken yet
pub RunOn-none : {owed : Owing} (p : Progress) → (run : RunOn owed 0 p p) × (number_of (length run.turns) ≡ 0)
RunOn-none p = (
  record {
    turns = [];
    sent = [];
    notes = [];
    lost = [];
    order = (refl, refl, refl);
    moved = Moves-none (record { sink = refl; counts = refl; unasked = refl });
    taken = Takes-none p.source;
    go_on = tt;
  },
  refl,
)

-- in order after other turns
order-then : (owed : Owing) (place : ℕ) (xs ys fs gs : List (List ℕ)) (ns ms : List Note) (js ks : List Out) (turns : List (List ℕ))
    → map message turns ≡ xs → InOrder owed place xs fs ns js → InOrder owed (place + length turns) ys gs ms ks
    → InOrder owed place (xs ++ ys) (fs ++ gs) (ns ++ ms) (js ++ ks)
order-then owed place xs ys fs gs ns ms js ks turns is first second =
    InOrder-append owed place xs ys fs gs ns ms js ks first
    (subst (λ (n : ℕ). InOrder owed (place + n) ys gs ms ks)
    (sym (length-map turns message) ∙ ap (λ (l : List (List ℕ)). length l) is) second)

-- the same at the start
order-first : (owed : Owing) (ys fs gs : List (List ℕ)) (ns ms : List Note) (js ks : List Out) (turns : List (List ℕ))
    → InOrder owed 0 (map message turns) fs ns js → InOrder owed (length turns) ys gs ms ks
    → InOrder owed 0 (map message turns ++ ys) (fs ++ gs) (ns ++ ms) (js ++ ks)
order-first owed ys fs gs ns ms js ks turns first second =
    order-then owed 0 (map message turns) ys fs gs ns ms js ks turns refl first
    (subst (λ (n : ℕ). InOrder owed n ys gs ms ks) (sym (zero-add (length turns))) second)

-- a run so far goes on
pub RunOn-then : {owed : Owing} {p q r : Progress} (first : RunOn owed 0 p q) (second : RunOn owed (length first.turns) q r)
    → (run : RunOn owed 0 p r) × (length run.turns ≡ length first.turns + length second.turns)
RunOn-then {owed} {p} {q} {r} first second = (
  record {
    turns = first.turns ++ second.turns;
    sent = first.sent ++ second.sent;
    notes = first.notes ++ second.notes;
    lost = first.lost ++ second.lost;
    order = subst (λ (m : List (List ℕ)). InOrder owed 0 m (first.sent ++ second.sent) (first.notes ++ second.notes) (first.lost ++ second.lost))
        (sym (map-append message first.turns second.turns))
        (order-first owed (map message second.turns) first.sent second.sent first.notes second.notes first.lost second.lost
        first.turns first.order second.order);
    moved = moves-then first.turns second.turns first.moved second.moved;
    taken = Takes-then first.turns second.turns p.source q.source r.source first.taken second.taken;
    go_on = subst AllGoOn (sym (map-append message first.turns second.turns))
        (All-append (λ (m : List ℕ). incoming m ≡ Request) (map message first.turns) (map message second.turns) first.go_on second.go_on);
  },
  length-append first.turns second.turns,
)

-- how a run ends whose first messages went on
RunEnds-after : (end : End) (xs answered refused : List (List ℕ)) (none_left failed failed' : Type 0)
    → AllGoOn xs → (failed → failed') → RunEnds end answered refused none_left failed → RunEnds end (xs ++ answered) refused none_left failed'
RunEnds-after Gone xs answered refused none_left failed failed' go longer e =
    (e.0, All-append (λ (m : List ℕ). incoming m ≡ Request) xs answered go e.1, e.2)
RunEnds-after Destroyed xs answered refused none_left failed failed' go longer e = (
  e.0,
  (
    xs ++ e.1.0,
    e.1.1,
    ap (λ (y : List (List ℕ)). xs ++ y) e.1.2 ∙ sym (append_assoc xs e.1.0 (e.1.1 ∷ [])),
    All-append (λ (m : List ℕ). incoming m ≡ Request) xs e.1.0 go e.1.3,
    e.1.4,
  ),
)
RunEnds-after (Broken r) xs answered refused none_left failed failed' go longer e =
    (e.0, All-append (λ (m : List ℕ). incoming m ≡ Request) xs answered go e.1)
RunEnds-after Failed xs answered refused none_left failed failed' go longer e =
    (e.0, All-append (λ (m : List ℕ). incoming m ≡ Request) xs answered go e.1, longer e.2)

-- a run so far, and its end
pub Run-then : {owed : Owing} {end : End} {p q r : Progress} (first : RunOn owed 0 p q)
    → Run (InOrder owed (length first.turns)) end q r → Run (InOrder owed 0) end p r
Run-then {owed} {end} {p} {q} {r} first second = record {
  turns = first.turns ++ second.turns;
  answered = map message first.turns ++ second.answered;
  refused = second.refused;
  sent = first.sent ++ second.sent;
  notes = first.notes ++ second.notes;
  lost = first.lost ++ second.lost;
  heard = map-append message first.turns second.turns
      ∙ (ap (λ (y : List (List ℕ)). map message first.turns ++ y) second.heard
      ∙ sym (append_assoc (map message first.turns) second.answered second.refused));
  order = order-first owed second.answered first.sent second.sent first.notes second.notes first.lost second.lost first.turns first.order second.order;
  moved = moves-then first.turns second.turns first.moved second.moved;
  begins = Begins-after first.turns second.turns p.source q.source first.taken second.begins;
  taken = λ other. Takes-then first.turns second.turns p.source q.source r.source first.taken (second.taken other);
  ended = RunEnds-after end (map message first.turns) second.answered second.refused (NothingLeft r.source) (SourceFailed q.source r.source)
      (SourceFailed p.source r.source) first.go_on (SourceFailed-after p.source q.source r.source first.taken.faults) second.ended;
}

-- a turn is the same beside any notices that were taken before
pub OneTurn-beside : (owed : Owing) (seq : ℕ) (found : Option End) (p q : Progress) (unasked : List (List ℕ)) → q.unasked ≡ p.unasked
    → OneTurn owed seq found p q → OneTurn owed seq found (beside p unasked) (beside q unasked)
OneTurn-beside owed seq None p q unasked same turn = λ place number.
    let t = turn place number in (
      record {
        turns = t.0.turns;
        sent = t.0.sent;
        notes = t.0.notes;
        lost = t.0.lost;
        order = t.0.order;
        moved = Moves-beside p q unasked same t.0.moved;
        taken = t.0.taken;
        go_on = t.0.go_on;
      },
      t.1,
    )
OneTurn-beside owed seq (Some end) p q unasked same turn = λ place number.
    let t : Run (InOrder owed place) end p q = turn place number in
    record {
      turns = t.turns;
      answered = t.answered;
      refused = t.refused;
      sent = t.sent;
      notes = t.notes;
      lost = t.lost;
      heard = t.heard;
      order = t.order;
      moved = Moves-beside p q unasked same t.moved;
      begins = t.begins;
      taken = t.taken;
      ended = t.ended;
    }

-- the run goes on after a request that is no DESTROY
pub incoming-request : (m : List ℕ) (h : Header) → header m ≡ Ok h → (h.opcode == FUSE_DESTROY) ≡ false → incoming m ≡ Request
incoming-request m h good other = ap incoming_by good ∙ ap (λ (b : Bool). if b then Destroy else Request) other

-- what goes out where no reply may come later goes out at once
pub prompt-shut : (seq : ℕ) (m : List ℕ) (out : Out) → MayComeLater (Err Shut) seq m out → IsPrompt out
prompt-shut seq m (Frame f) later = tt
prompt-shut seq m (Noting id mark) later = tt
prompt-shut seq m (Deferred number id) later = absurd (let shut = later.0 in let no : ⊥ = cc in no)

-- a request has a good header
pub not-broken : (m : List ℕ) → IsRequest m → IsBroken m → ⊥
not-broken m request broken = let no : Ok request.0 ≡ Err broken.0 = sym request.1 ∙ broken.1 in absurd (let bad : ⊥ = cc in bad)

-- DESTROY has a good header
pub destroy-not-broken : (m : List ℕ) → incoming m ≡ Destroy → IsBroken m → ⊥
destroy-not-broken m is broken =
    let no : Incoming.Broken broken.0 ≡ Destroy = sym (ap incoming_by broken.1) ∙ is in
    absurd (let bad : ⊥ = cc in bad)
