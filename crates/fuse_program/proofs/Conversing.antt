-- A session over the bytes of an input and an output.
use Rattle.std.proofs.Common.{◌≡◌, ◌≢◌, ◌⊎◌, ◌<◌, ◌≤◌, ◌+◌, ◌++◌, ℕ, Bool, true, false, List, [], ◌∷◌, sym, ◌∙◌, ap, subst}
use Rattle.std.proofs.Common.{arith, refl, length, map, not, Option, Some, Ok, Err, inl, inr, min, option_map, append-nil}
use Rattle.std.specs.Prelude.{filter}
use Rattle.std.specs.List.{concat}
use Rattle.std.proofs.lemmas.List.{map-append}
use Rattle.fuse_wire.specs.Cut.{cut}
use Rattle.fuse_wire.specs.Faults.{last_count, Rose, counted}
use Rattle.fuse_wire.specs.Source.{message, NothingLeft}
use Rattle.fuse_wire.specs.Sink.{SinkState, Note}
use Rattle.fuse_wire.specs.ByteSource.{ByteSourceState, TakesBytes, NoByteLeft, StreamFailed}
use Rattle.fuse_wire.specs.ByteSink.{ByteSinkState}
use Rattle.fuse_wire.specs.StreamSource.{stream_source_told}
use Rattle.fuse_wire.specs.StreamSink.{Stands, stream_sink_told}
use Rattle.fuse_reply.specs.declared.out.Out.{Out}
use Rattle.fuse_loop.specs.Incoming.{Incoming, EndsAfter, EndsWell, incoming}
use Rattle.fuse_loop.specs.Incoming.Incoming.{Broken, Destroy, Request}
use Rattle.fuse_session.specs.Handshake.{HandshakeEnd}
use Rattle.fuse_session.specs.Exchange.{Setup, EndedBy, Dialogue, Exchange, Mounted}
use Rattle.fuse_session.specs.SessionEnd.{Outcome}
use Rattle.fuse_session.specs.Headline.{Account, EndedWell}
use Rattle.fuse_session.specs.Complete.{AcceptsAll, OpensWell, SessionWell}
use Rattle.fuse_loop.specs.Progress.{is_notice, nothing_yet, progress}
use Rattle.fuse_loop.specs.declared.transcript.Transcript.{Transcript}
use Rattle.fuse_session.specs.declared.error.SessionError.TheVariants as session
use Rattle.fuse_program.specs.Status.{status}
use Rattle.fuse_hello.specs.Tree.{tree_promise, tree_may_init}
use Rattle.fuse_program.specs.Program.{AnsweredBy, Fronts, WritesFrames, Still, ByteExchange, InputWell, form_setup}
use Rattle.fuse_hello.specs.declared.hello.Hello.{Hello}
use Rattle.fuse_program.specs.declared.arguments.ServeForm.{ServeForm}
use Rattle.fuse_program.proofs.Statuses.{status-counted, ok-statuses, eight-status}
use Rattle.fuse_program.proofs.Reading.{Fronts-begins, Fronts-takes, TakesBytes-takes, NoByteLeft-nothing, front-whole, same_some}
use Rattle.fuse_program.proofs.Writing.{torn_in, WritesFrames-stands, TornFromFirst-tail, torn-none, Rose-broken, Rose-lost}

-- messages that end well do so whatever says that none is left
ends-map : (i : Incoming) (more : List (List ℕ)) (P Q : Type 0) → (P → Q) → EndsAfter i more P → EndsAfter i more Q
ends-map (Broken e) more P Q f p = p
ends-map Destroy more P Q f p = p
ends-map Request more P Q f p = f p

EndsWell-map : (ms : List (List ℕ)) (P Q : Type 0) → (P → Q) → EndsWell ms P → EndsWell ms Q
EndsWell-map [] P Q f p = f p
EndsWell-map (m ∷ ms) P Q f p = ends-map (incoming m) ms (EndsWell ms P) (EndsWell ms Q) (EndsWell-map ms P Q f) p

-- and so why a session ended
EndedBy-map : (o : Outcome) (threads : Option ℕ) (end : HandshakeEnd) (answered refused : List (List ℕ))
    (P Q F G : Type 0) → (P → Q) → (F → G)
    → EndedBy o threads end answered refused P F → EndedBy o threads end answered refused Q G
EndedBy-map (Ok u) threads end answered refused P Q F G none failed e = (e.0, e.1, EndsWell-map answered P Q none e.2)
EndedBy-map (Err (session.Conflict i j)) threads end answered refused P Q F G none failed e = e
EndedBy-map (Err session.AutoUnmount) threads end answered refused P Q F G none failed e = e
EndedBy-map (Err session.CloneFd) threads end answered refused P Q F G none failed e = e
EndedBy-map (Err session.Memory) threads end answered refused P Q F G none failed e = e
EndedBy-map (Err session.NotConnected) threads end answered refused P Q F G none failed e = (e.0, none e.1)
EndedBy-map (Err (session.InvalidData d)) threads end answered refused P Q F G none failed e = e
EndedBy-map (Err (session.Unsupported v)) threads end answered refused P Q F G none failed e = e
EndedBy-map (Err (session.Init n)) threads end answered refused P Q F G none failed e = e
EndedBy-map (Err session.Threads) threads end answered refused P Q F G none failed e = e
EndedBy-map (Err session.Receive) threads end answered refused P Q F G none failed e = (failed e.0, e.1)

Dialogue-map : {X : Type 0} {setup : Setup X} {fs fs1 : X} {o : Outcome} {P F : Type 0} {ms sent : List (List ℕ)} {notes : List Note}
    {lost : List Out} (Q G : Type 0)
    → (P → Q) → (F → G) → Dialogue setup fs fs1 o P F ms sent notes lost → Dialogue setup fs fs1 o Q G ms sent notes lost
Dialogue-map {X} {setup} {fs} {fs1} {o} {P} {F} Q G none failed d = record {
  hs = d.hs;
  answered = d.answered;
  refused = d.refused;
  handshake_replies = d.handshake_replies;
  handshake_sent = d.handshake_sent;
  later_sent = d.later_sent;
  end = d.end;
  lost_first = d.lost_first;
  lost_later = d.lost_later;
  heard = d.heard;
  handshake = d.handshake;
  left_out = d.left_out;
  accounted = d.accounted;
  said = d.said;
  missed = d.missed;
  ended = EndedBy-map o setup.threads d.end d.answered d.refused P Q F G none failed d.ended;
}

-- the tree refuses no INIT
pub AcceptsAll-tree : (tree : Hello) → AcceptsAll tree_may_init tree
AcceptsAll-tree tree = λ request config0 config e fs1 allowed. let is = allowed.0 in let no : ⊥ = cc in no

-- what was refused, or a write that failed, was counted by the output
rose-counted : (refused : ℕ) (output output' : ByteSinkState) (sink : SinkState) (broken : Bool)
    → sink.origin ≡ output → (sink.faults < last_count → refused + counted output.faults 0 ≤ sink.faults) → ∥ Stands sink output' broken ∥₁
    → (0 < refused) ⊎ (broken ≡ true) → Rose output.faults output'.faults
rose-counted refused output output' sink true origin cause stands why = Rose-broken output output' sink true origin stands refl
rose-counted refused output output' sink false origin cause stands (inl some) = Rose-lost refused output output' sink false cause stands refl some
rose-counted refused output output' sink false origin cause stands (inr is) = absurd (let no : ⊥ = cc in no)

-- a session over the bytes of an input and an output
pub ByteExchange-mounted : (form : ServeForm) (exit : ℕ) (outcome : Outcome) (input input' : ByteSourceState) (output output' : ByteSinkState)
    (sink : SinkState) (broken : Bool) (v : Transcript) (tree tree' : Hello)
    → Mounted (form_setup form) tree tree' outcome (stream_source_told input) (stream_source_told input') (stream_sink_told output output false 0) sink v
    → ((e : ℕ) → outcome ≢ Err (session.Init e)) → ∥ Stands sink output' broken ∥₁ → exit ≡ status outcome v.lost broken
    → ByteExchange form exit input input' output output'
ByteExchange-mounted form exit outcome input input' output output' sink broken v tree tree' mounted accepted stands is = record {
  tree = tree;
  tree1 = mounted.fs1;
  tree' = tree';
  outcome = outcome;
  messages = map message x.turns;
  sent = x.sent;
  notes = x.notes;
  lost = x.lost;
  appended = x.moved.appended;
  torn = torn_in sink.tail;
  refused = x.moved.refused;
  broken = broken;
  status_is = is ∙ (ap (λ (n : ℕ). status outcome n broken) lost_is ∙ status-counted outcome (length x.lost) broken);
  dialogue = Dialogue-map (NoByteLeft input') (StreamFailed input input') (NoByteLeft-nothing input') (λ failed. failed) x.dialogue;
  accepted = accepted;
  destroyed = mounted.destroyed;
  front = Fronts-begins x.turns input x.begins;
  read = λ other. TakesBytes-takes x.turns input input' (x.taken other);
  written = WritesFrames-stands x.moved.appended x.notes output output' sink broken x.moved.written stands;
  replied = x.moved.replied;
  set_aside = x.moved.set_aside;
  missed = x.moved.missed;
  first_refused = TornFromFirst-tail x.moved.refused output.bytes output' sink broken (ap (λ (o : ByteSinkState). o.bytes) x.moved.written.origin)
      stands x.moved.tail;
  whole = torn-none x.moved.appended x.notes output output' sink broken x.moved.written stands;
  counted = rose-counted (length x.moved.refused) output output' sink broken x.moved.written.origin x.moved.cause stands;
} where
  x : Exchange (form_setup form) tree mounted.fs1 outcome (progress (stream_source_told input) (stream_sink_told output output false 0) nothing_yet [])
      (progress (stream_source_told input') sink v mounted.unasked)
  x = mounted.exchange

  lost_is : v.lost ≡ min (length x.lost) last_count
  lost_is =
      let at_end : v.lost ≡ min (0 + length x.lost) last_count = ap (λ (w : Transcript). w.lost) (x.moved.counts 0 0 0 0 refl) in omega arith

-- each message was answered, in whichever way, where the session ended well and no write failed
pub AnsweredBy-ended : (account : Account Hello) (form : ServeForm) (input input' : ByteSourceState) (output output' : ByteSinkState) (sink : SinkState)
    (broken : Bool) (tree : Hello)
    → EndedWell account tree_promise form.page tree (stream_source_told input) (stream_source_told input')
    (stream_sink_told output output false 0) sink
    → ∥ Stands sink output' broken ∥₁ → broken ≡ false → AnsweredBy account form input input' output output'
AnsweredBy-ended account form input input' output output' sink broken tree h stands is = record {
  tree = tree;
  tree1 = h.fs1;
  granted = h.granted;
  hs = map message h.hs;
  ls = map message h.ls;
  handshake_replies = h.handshake_replies;
  later_replies = h.later_replies;
  appended = h.appended;
  notes = h.notes;
  front = subst (λ (ms : List (List ℕ)). Fronts ms input) (map-append message h.hs h.ls)
      (Fronts-takes (h.hs ++ h.ls) input input' h.taken);
  read = subst (λ (ms : List (List ℕ)). TakesBytes (concat ms) input input') (map-append message h.hs h.ls)
      (TakesBytes-takes (h.hs ++ h.ls) input input' h.taken);
  handshake = h.handshake;
  written = subst (λ (torn : List ℕ). WritesFrames h.appended torn output output')
      (torn-none h.appended h.notes output output' sink broken h.written stands is)
      (WritesFrames-stands h.appended h.notes output output' sink broken h.written stands);
  replied = h.replied;
  set_aside = h.set_aside;
  one_per_message = h.one_per_message;
  ended = EndsWell-map (map message h.ls) (NothingLeft (stream_source_told input')) (NoByteLeft input') (NoByteLeft-nothing input') h.ended;
}

-- nothing is amiss with the messages where nothing is with the bytes
pub SessionWell-bytes : (form : ServeForm) (input input' : ByteSourceState) (output output' : ByteSinkState) (tree : Hello)
    → InputWell form input input' output output' → SessionWell tree_may_init (Some form.threads) tree (stream_source_told input) (stream_source_told input')
SessionWell-bytes form input input' output output' tree fine = record {
  turns = cut fine.bytes;
  told = ap (option_map cut) fine.told;
  opens_well = subst OpensWell (sym (front-whole fine.bytes (cut fine.bytes) [] (sym (append-nil (cut fine.bytes))))) fine.opens_well;
  accepts = AcceptsAll-tree tree;
  served = λ is. threads-some form.threads fine.served is;
  unfailing = record {
    same = fine.input_still.0;
    counts = let same = fine.input_still.0 in let low = fine.input_still.1 in omega arith;
  };
} where
  threads-some : (n : ℕ) → 0 < n → Some n ≡ Some 0 → ⊥
  threads-some n some is = let none : n ≡ 0 = same_some n 0 is in omega arith

-- something was refused where something was lost
refused-some : (refused lost : List Out) (P : Type 0) → filter (λ (out : Out). not (is_notice out)) refused ≡ lost
    → (0 < length lost) ⊎ P → (0 < length refused) ⊎ P
refused-some [] lost P is (inl some) = absurd (omega (arith, some, ap (λ (l : List Out). length l) is))
refused-some (out ∷ refused) lost P is (inl some) = inl (omega arith)
refused-some refused lost P is (inr p) = inr p

still-not : (before after : ℕ) → Still before after → Rose before after → ⊥
still-not before after still rose =
    let same : after ≡ before = still.0 in
    let more : before < after = rose still.1 in
    omega arith

-- with an outcome that is Ok or want of memory, and an output that did not fail, the status is 0 or 9
pub complete-status : (form : ServeForm) (exit lost : ℕ) (broken : Bool) (outcome : Outcome) (input input' : ByteSourceState) (output output' : ByteSinkState)
    → exit ≡ status outcome lost broken → (exit ≢ 9 → ByteExchange form exit input input' output output') → Still output.faults output'.faults
    → (outcome ≡ Ok tt) ⊎ (outcome ≡ Err session.Memory) → (exit ≡ 0) ⊎ (exit ≡ 9)
complete-status form exit lost broken outcome input input' output output' is exchange still (inr memory) =
    inr (is ∙ ap (λ (o : Outcome). status o lost broken) memory)
complete-status form exit lost broken outcome input input' output output' is exchange still (inl ok) =
    inl (by_status (ok-statuses lost broken))
  where
    ended : exit ≡ status (Ok tt) lost broken
    ended = is ∙ ap (λ (o : Outcome). status o lost broken) ok

    by_status : (status (Ok tt) lost broken ≡ 0) ⊎ (status (Ok tt) lost broken ≡ 8) → exit ≡ 0
    by_status (inl none) = ended ∙ none
    by_status (inr eight) =
        let x : ByteExchange form exit input input' output output' = exchange (λ nine. omega (arith, nine, ended, eight)) in
        absurd (still-not output.faults output'.faults still
        (x.counted (refused-some x.refused x.lost (x.broken ≡ true) x.missed
        (eight-status x.outcome (length x.lost) x.broken (sym x.status_is ∙ (ended ∙ eight))))))
