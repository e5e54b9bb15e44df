-- A session that ends well, where nothing was lost.
use Rattle.std.proofs.Common.{◌≡◌, ◌+◌, ◌≤◌, ◌++◌, ℕ, List, [], sym, ◌∙◌, ap}
use Rattle.std.proofs.Common.{subst, arith, map, length, length-append, Ok, inl, inr, min, append-nil, not}
use Rattle.std.proofs.lemmas.List.{length-map, nil_from_length}
use Rattle.fuse_wire.specs.Faults.{last_count}
use Rattle.fuse_wire.specs.Source.{Takes, message, NothingLeft, SourceFailed}
use Rattle.fuse_wire.specs.Sink.{Note}
use Rattle.fuse_wire.specs.declared.flags.init_flags.InitFlags.{InitFlags}
use Rattle.fuse_reply.specs.declared.out.Out.{Out}
use Rattle.fuse_reply.specs.declared.out.Out.TheVariants.{Frame}
use Rattle.fuse_loop.specs.Incoming.{IsBroken, EndsWell}
use Rattle.fuse_dispatch.specs.OwedMessage.{OwedByPromise}
use Rattle.fuse_dispatch.specs.Verdict.{terms}
use Rattle.fuse_core.specs.OnePerMessage.{InOrder, OnePerMessage, UpToOrder}
use Rattle.fuse_workers.specs.OnePerMessageLater.{OnePerMessageLater}
use Rattle.fuse_session.specs.Handshake.{HandshakeEnd, Handshake}
use Rattle.fuse_session.specs.Handshake.HandshakeEnd.{Accepted}
use Rattle.fuse_session.specs.Accounted.{Accounted, ManyThreads, NeverLater}
use Rattle.fuse_session.specs.Headline.{Account, EndedWell, Headline, LaterHeadline, Lossless, OrderedHeadline}
use Rattle.fuse_session.specs.Exchange.{Setup, Dialogue, Exchange, terms_after}
use Rattle.fuse_loop.specs.Progress.{Progress, Moves, LeavesOut, but_unrecorded, is_notice, nothing_yet}
use Rattle.fuse_loop.specs.declared.transcript.Transcript.{Transcript}
use Rattle.fuse_loop.proofs.ItemLists.{Splits, Splits-map, filter-shorter}
use Rattle.fuse_loop.proofs.Quieting.{LeavesOut-none, refused-none}

-- Nothing was lost where the sink's count did not rise, or the transcript says so.
lossless : {received : ℕ} {sent : List (List ℕ)} {notes : List Note} {lost : List Out} {p q : Progress} → Moves received sent notes lost p q
    → p.counts ≡ nothing_yet → Lossless p.sink q.sink q.counts → length lost ≡ 0
lossless {received} {sent} {notes} {lost} {p} {q} moved start (inl quiet) =
    let fewer : length lost ≤ length moved.refused =
    subst (λ (outs : List Out). length outs ≤ length moved.refused) moved.missed
    (filter-shorter (λ (out : Out). not (is_notice out)) moved.refused) in
    omega (arith, fewer, refused-none moved quiet)
lossless {received} {sent} {notes} {lost} {p} {q} moved start (inr none) =
    let is : q.counts.lost ≡ min (0 + length lost) last_count = ap (λ (w : Transcript). w.lost) (moved.counts 0 0 0 0 (ap but_unrecorded start)) in
    omega arith

-- A session that ended well, whose later messages are accounted for in any way that its dialogue shows.
EndedWell-from_exchange : {F : Type 0} (account : Account F) {setup : Setup F} {fs fs1 : F} {p q : Progress} (exchange : Exchange setup fs fs1 (Ok tt) p q)
    → ((granted : InitFlags) (lost : List Out) → lost ≡ []
    → Accounted setup.threads setup.promise.defers (OwedByPromise setup.promise fs1 (terms setup.acl setup.owner granted))
    exchange.dialogue.answered exchange.dialogue.later_sent exchange.notes lost
    → account fs1 granted exchange.dialogue.answered exchange.dialogue.later_sent exchange.notes)
    → p.counts ≡ nothing_yet → Lossless p.sink q.sink q.counts
    → EndedWell account setup.promise setup.page fs p.source q.source p.sink q.sink
EndedWell-from_exchange {F} account {setup} {fs} {fs1} {p} {q} exchange shows start quiet = record {
  hs = split.front;
  ls = split.back;
  handshake_replies = d.handshake_replies;
  later_replies = d.later_sent;
  appended = exchange.moved.appended;
  notes = exchange.notes;
  fs1 = fs1;
  granted = granted;
  taken = subst (λ (ts : List (List ℕ)). Takes ts p.source q.source) split.both (exchange.taken (λ is. cc));
  handshake = subst (λ (ms : List (List ℕ)). Handshake setup.promise.may_init setup.page fs ms d.handshake_replies fs1 (Accepted granted)) (sym split.front_is)
      (subst (λ (e : HandshakeEnd). Handshake setup.promise.may_init setup.page fs d.hs d.handshake_replies fs1 e) d.ended.0.0.1 d.handshake);
  written = exchange.moved.written;
  replied = exchange.moved.replied ∙ (d.said ∙ ap (λ (w : List (List ℕ)). w ++ d.later_sent)
      (LeavesOut-none d.handshake_replies d.handshake_sent
      (subst (λ (lost : List (List ℕ)). LeavesOut lost d.handshake_replies d.handshake_sent) none_first d.left_out)));
  set_aside = exchange.moved.set_aside;
  one_per_message = subst (λ (ms : List (List ℕ)). account fs1 granted ms d.later_sent exchange.notes) (sym later)
      (shows granted d.lost_later none_later accounted);
  ended = subst (λ (ms : List (List ℕ)). EndsWell ms (NothingLeft q.source)) (sym later) d.ended.2;
} where
  d : Dialogue setup fs fs1 (Ok tt) (NothingLeft q.source) (SourceFailed p.source q.source) (map message exchange.turns)
      exchange.sent exchange.notes exchange.lost
  d = exchange.dialogue

  granted : InitFlags
  granted = d.ended.0.0.0

  accounted : Accounted setup.threads setup.promise.defers (OwedByPromise setup.promise fs1 (terms setup.acl setup.owner granted))
      d.answered d.later_sent exchange.notes d.lost_later
  accounted = subst (λ (e : HandshakeEnd). Accounted setup.threads setup.promise.defers (OwedByPromise setup.promise fs1 (terms_after setup e))
      d.answered d.later_sent exchange.notes d.lost_later) d.ended.0.0.1 d.accounted

  split : Splits message exchange.turns d.hs (d.answered ++ d.refused)
  split = Splits-map message exchange.turns d.hs (d.answered ++ d.refused) d.heard

  later : map message split.back ≡ d.answered
  later = split.back_is ∙ (ap (λ (r : List (List ℕ)). d.answered ++ r) d.ended.1 ∙ append-nil d.answered)

  none : length (map Frame d.lost_first) + length d.lost_later ≡ 0
  none =
      sym (length-append (map Frame d.lost_first) d.lost_later)
      ∙ (ap (λ (lost : List Out). length lost) (sym d.missed) ∙ lossless exchange.moved start quiet)

  none_first : d.lost_first ≡ []
  none_first = nil_from_length d.lost_first (omega (arith, none, length-map d.lost_first Frame))

  none_later : d.lost_later ≡ []
  none_later = nil_from_length d.lost_later (omega (arith, none))

-- each message that it took has the one reply that it is owed
pub Headline-from_exchange : {F : Type 0} {setup : Setup F} {fs fs1 : F} {p q : Progress} → NeverLater setup.threads setup.promise.defers
    → Exchange setup fs fs1 (Ok tt) p q → p.counts ≡ nothing_yet → Lossless p.sink q.sink q.counts
    → Headline setup.promise setup.page setup.acl setup.owner fs p.source q.source p.sink q.sink
Headline-from_exchange {F} {setup} {fs} {fs1} {p} {q} never exchange start quiet =
    EndedWell-from_exchange
    (λ at granted messages replies notes. OnePerMessage (OwedByPromise setup.promise at (terms setup.acl setup.owner granted)) IsBroken 0 messages replies notes [] 0)
    exchange (λ granted lost none accounted.
    subst (λ (outs : List Out). UpToOrder (OwedByPromise setup.promise fs1 (terms setup.acl setup.owner granted)) IsBroken exchange.dialogue.answered
    exchange.dialogue.later_sent exchange.notes outs) none (accounted.one_per_message never)) start quiet

-- in order, where no more than one thread serves
pub OrderedHeadline-from_exchange : {F : Type 0} {setup : Setup F} {fs fs1 : F} {p q : Progress} → ¬ (ManyThreads setup.threads)
    → Exchange setup fs fs1 (Ok tt) p q → p.counts ≡ nothing_yet → Lossless p.sink q.sink q.counts
    → OrderedHeadline setup.promise setup.page setup.acl setup.owner fs p.source q.source p.sink q.sink
OrderedHeadline-from_exchange {F} {setup} {fs} {fs1} {p} {q} one exchange start quiet =
    EndedWell-from_exchange
    (λ at granted messages replies notes. InOrder (OwedByPromise setup.promise at (terms setup.acl setup.owner granted)) 0 messages replies notes [])
    exchange (λ granted lost none accounted.
    subst (λ (outs : List Out). InOrder (OwedByPromise setup.promise fs1 (terms setup.acl setup.owner granted)) 0 exchange.dialogue.answered
    exchange.dialogue.later_sent exchange.notes outs) none (accounted.in_order one)) start quiet

-- or the mark of one that came later
pub LaterHeadline-from_exchange : {F : Type 0} {setup : Setup F} {fs fs1 : F} {p q : Progress}
    → Exchange setup fs fs1 (Ok tt) p q → p.counts ≡ nothing_yet → Lossless p.sink q.sink q.counts
    → LaterHeadline setup.promise setup.page setup.acl setup.owner fs p.source q.source p.sink q.sink
LaterHeadline-from_exchange {F} {setup} {fs} {fs1} {p} {q} exchange start quiet =
    EndedWell-from_exchange
    (λ at granted messages replies notes. OnePerMessageLater (OwedByPromise setup.promise at (terms setup.acl setup.owner granted)) IsBroken messages replies notes [])
    exchange (λ granted lost none accounted.
    subst (λ (outs : List Out). OnePerMessageLater (OwedByPromise setup.promise fs1 (terms setup.acl setup.owner granted)) IsBroken exchange.dialogue.answered
    exchange.dialogue.later_sent exchange.notes outs) none accounted.later) start quiet
