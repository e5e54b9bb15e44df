-- When a session must end well.
use Rattle.std.proofs.Common.{◌≡◌, ◌⊎◌, ◌<◌, ◌≤◌, ◌++◌, ℕ, List, [], ◌∷◌, inl, inr, sym, ◌∙◌, ap, subst, arith, refl, map, Bool, true}
use Rattle.std.proofs.Common.{false, Option, None, Some, option_map, IfSome, Result, Ok, Err, lt-ltb, le-ltb, append_assoc}
use Rattle.std.specs.Prelude.{if◌then◌else◌, nat_lt, ◌==◌, ◌&&◌, ◌||◌}
use Rattle.std.proofs.lemmas.List.{map-append}
use Rattle.fuse_wire.specs.Faults.{last_count}
use Rattle.fuse_wire.specs.Source.{SourceState, Takes, message, NothingLeft, SourceFailed}
use Rattle.fuse_config.specs.Values.{Configuration}
use Rattle.fuse_config.specs.Configuration.{start}
use Rattle.fuse_args.specs.declared.fixed.InitArguments.{InitArguments}
use Rattle.fuse_request.specs.InitOperation.{version}
use Rattle.fuse_header.specs.Header.{header, body, request_of}
use Rattle.fuse_header.specs.declared.header.Header.{Header}
use Rattle.fuse_header.specs.declared.request.Request.{Request as Asker}
use Rattle.fuse_header.specs.declared.error.RequestError.{RequestError}
use Rattle.fuse_dispatch.specs.Promise.{MayInit}
use Rattle.fuse_loop.specs.Incoming.{incoming, incoming_by, AllGoOn}
use Rattle.fuse_loop.specs.Incoming.Incoming.{Broken, Request}
use Rattle.fuse_session.specs.Handshake.{greeting, greeting_by_header, greeting_by_operation, greeting_by_version, offer_of, is_old, Greets}
use Rattle.fuse_session.specs.Handshake.{NegotiationReply, Handshake, HandshakeEnd, IsAccepted}
use Rattle.fuse_session.specs.Handshake.HandshakeEnd.{Open, Failed}
use Rattle.fuse_session.specs.Exchange.{Setup, EndedBy, Dialogue, Exchange, Unopened}
use Rattle.fuse_session.specs.SessionEnd.{Outcome}
use Rattle.fuse_session.specs.Complete.{AcceptsAll, GoodHeaders, HandshakeWell, IsInit, Opens, OpensAtLeast, OpensWell, SessionWell}
use Rattle.fuse_loop.specs.Progress.{Progress}
use Rattle.fuse_session.specs.Session.{OpensNone}
use Rattle.fuse_session.specs.declared.error.SessionError.TheVariants as session
use Rattle.fuse_session.specs.declared.greeting.Greeting.{Greeting}
use Rattle.fuse_session.specs.declared.greeting.Greeting.TheVariants.{Silent, NotInit, Newer, Old, Offered}
use Rattle.fuse_session.specs.declared.greeting.HandshakeError.{HandshakeError}
use Rattle.fuse_session.specs.declared.greeting.HandshakeError.TheVariants.{InvalidData, Unsupported, Init}
use Rattle.fuse_session.specs.declared.greeting.Offer.{Offer}

-- an INIT is greeted by its version
greeting-init : (m : List ℕ) (i : InitArguments) (init : IsInit m i) → greeting m ≡ greeting_by_version init.head i
greeting-init m i init =
    ap (λ (h : Result Header RequestError). greeting_by_header h (body m)) init.good ∙ ap (greeting_by_operation init.head) init.decodes

by_version-newer : (h : Header) (i : InitArguments) → 7 < i.major → greeting_by_version h i ≡ Newer h.unique
by_version-newer h i later =
    ap (λ (b : Bool). if b then Newer h.unique else if is_old i then Old h.unique (version i) else Offered (request_of h) (offer_of i))
    (lt-ltb 7 i.major later)

not-old : (seven : Bool) → (false || (seven && false)) ≡ false
not-old true = refl
not-old false = refl

is_old-no : (i : InitArguments) → 7 ≤ i.major → 6 ≤ i.minor → is_old i ≡ false
is_old-no i major minor =
    ap (λ (b : Bool). b || ((i.major == 7) && nat_lt i.minor 6)) (le-ltb i.major 7 major)
    ∙ ap (λ (b : Bool). false || ((i.major == 7) && b)) (le-ltb i.minor 6 minor)
    ∙ not-old (i.major == 7)

by_version-offered : (h : Header) (i : InitArguments) → i.major ≡ 7 → 6 ≤ i.minor → greeting_by_version h i ≡ Offered (request_of h) (offer_of i)
by_version-offered h i major minor =
    ap (λ (b : Bool). if b then Newer h.unique else if is_old i then Old h.unique (version i) else Offered (request_of h) (offer_of i))
    (le-ltb 7 i.major (omega (arith, major)))
    ∙ ap (λ (b : Bool). if b then Old h.unique (version i) else Offered (request_of h) (offer_of i))
    (is_old-no i (omega (arith, major)) minor)

-- a handshake of messages that open well is open, or accepted
abbrev GoesWell : (Later : List (List ℕ) → Type 0) → HandshakeEnd → (rest : List (List ℕ)) → Type 0
GoesWell Later end rest = ((end ≡ Open) × Opens Later rest) ⊎ (IsAccepted end × Later rest)

negotiates-well : {F : Type 0} (may_init : MayInit F) (page : ℕ) (fs fs1 : F) (request : Asker) (offer : Offer)
    (config : Configuration) (r : Result (Unit {0}) ℕ)
    (frames : List (List ℕ)) (end : HandshakeEnd)
    → AcceptsAll may_init fs → may_init fs request (start offer.capabilities.0 offer.max_readahead offer.version) r fs1 config
    → NegotiationReply request.unique.0 offer page config r frames end → IsAccepted end
negotiates-well may_init page fs fs1 request offer config (Err e) frames end accepts allowed p =
    absurd (accepts request (start offer.capabilities.0 offer.max_readahead offer.version) config e fs1 allowed)
negotiates-well may_init page fs fs1 request offer config (Ok u) frames end accepts allowed p = (_, p.1)

greets-well : {F : Type 0} (Later : List (List ℕ) → Type 0)
    (may_init : MayInit F) (page : ℕ) (fs fs1 : F) (h : Header) (i : InitArguments) (ms rest frames : List (List ℕ)) (end : HandshakeEnd)
    (later : List (List ℕ) → Type 0)
    → AcceptsAll may_init fs → (Opens Later (ms ++ rest) → (after : List (List ℕ)) → later after → GoesWell Later end rest)
    → Greets may_init page fs (greeting_by_version h i) ms frames fs1 end later
    → ((7 < i.major) × Opens Later (ms ++ rest)) ⊎ ((i.major ≡ 7) × (6 ≤ i.minor) × Later (ms ++ rest)) → GoesWell Later end rest
greets-well Later may_init page fs fs1 h i ms rest frames end later accepts more greets (inl w) =
    let newer : Greets may_init page fs (Newer h.unique) ms frames fs1 end later =
    subst (λ (g : Greeting). Greets may_init page fs g ms frames fs1 end later) (by_version-newer h i w.0) greets in
    more w.1 newer.0 newer.2
greets-well Later may_init page fs fs1 h i ms rest frames end later accepts more greets (inr w) =
    let offer : Greets may_init page fs (Offered (request_of h) (offer_of i)) ms frames fs1 end later =
    subst (λ (g : Greeting). Greets may_init page fs g ms frames fs1 end later) (by_version-offered h i w.0 w.1) greets in
    inr (
      negotiates-well may_init page fs fs1 (request_of h) (offer_of i) offer.1.config offer.1.result frames end accepts offer.1.allowed offer.1.replies,
      subst (λ (x : List (List ℕ)). Later (x ++ rest)) offer.0 w.2,
    )

-- a handshake of the first of some messages that open well
handshake-well : {F : Type 0} (Later : List (List ℕ) → Type 0)
    (may_init : MayInit F) (page : ℕ) (fs fs1 : F) (ms rest frames : List (List ℕ)) (end : HandshakeEnd)
    → AcceptsAll may_init fs → Handshake may_init page fs ms frames fs1 end → Opens Later (ms ++ rest) → GoesWell Later end rest
handshake-well Later may_init page fs fs1 [] rest frames end accepts p w = inl (p.2, w)
handshake-well Later may_init page fs fs1 (m ∷ ms) rest frames end accepts p w =
    greets-well Later may_init page fs fs1 w.1.head w.0 ms rest frames end (λ after. Handshake may_init page fs ms after fs1 end) accepts
    (λ well after h. handshake-well Later may_init page fs fs1 ms rest after end accepts h well)
    (subst (λ (g : Greeting). Greets may_init page fs g ms frames fs1 end (λ after. Handshake may_init page fs ms after fs1 end))
    (greeting-init m w.0 w.1) p) w.2

-- a message after which the handshake has ended by an error of `init`
refused-greeting : {F : Type 0} (may_init : MayInit F) (page : ℕ) (fs fs1 : F) (g : Greeting) (ms frames : List (List ℕ)) (n : ℕ)
    (later : List (List ℕ) → Type 0)
    → AcceptsAll may_init fs → ((rest : List (List ℕ)) → later rest → ⊥) → Greets may_init page fs g ms frames fs1 (Failed (Init n)) later → ⊥
refused-greeting may_init page fs fs1 (Silent d) ms frames n later accepts more greets = let is = greets.3 in cc
refused-greeting may_init page fs fs1 (NotInit id opcode) ms frames n later accepts more greets = let is = greets.3 in cc
refused-greeting may_init page fs fs1 (Old id v) ms frames n later accepts more greets = let is = greets.3 in cc
refused-greeting may_init page fs fs1 (Newer id) ms frames n later accepts more greets = more greets.0 greets.2
refused-greeting may_init page fs fs1 (Offered request offer) ms frames n later accepts more greets =
    let p = greets.1 in
    let accepted : IsAccepted (Failed (Init n)) =
    negotiates-well may_init page fs fs1 request offer p.config p.result frames (Failed (Init n)) accepts p.allowed p.replies in let is = accepted.1 in cc

refused-handshake : {F : Type 0} (may_init : MayInit F) (page : ℕ) (fs fs1 : F) (ms frames : List (List ℕ)) (n : ℕ)
    → AcceptsAll may_init fs → Handshake may_init page fs ms frames fs1 (Failed (Init n)) → ⊥
refused-handshake may_init page fs fs1 [] frames n accepts p = let is = p.2 in cc
refused-handshake may_init page fs fs1 (m ∷ ms) frames n accepts p =
    refused-greeting may_init page fs fs1 (greeting m) ms frames n (λ rest. Handshake may_init page fs ms rest fs1 (Failed (Init n))) accepts
    (λ rest h. refused-handshake may_init page fs fs1 ms rest n accepts h) p

-- where `init` refuses nothing, no session ends by its error
pub never-refused : {F : Type 0} {setup : Setup F} {fs fs1 : F} {p q : Progress} (n : ℕ) → Exchange setup fs fs1 (Err (session.Init n)) p q
    → AcceptsAll setup.promise.may_init fs → ⊥
never-refused {F} {setup} {fs} {fs1} {p} {q} n exchange accepts =
    let d = exchange.dialogue in
    refused-handshake setup.promise.may_init setup.page fs fs1 d.hs d.handshake_replies n accepts
    (subst (λ (end : HandshakeEnd). Handshake setup.promise.may_init setup.page fs d.hs d.handshake_replies fs1 end) d.ended.0 d.handshake)

-- a message without a good header does not stand first among good ones
good-here : (m : List ℕ) (ms : List (List ℕ)) (e : RequestError) → header m ≡ Err e → GoodHeaders (m ∷ ms) → ⊥
good-here m ms e broken (inl is) = let bad : incoming m ≡ Broken e = ap incoming_by broken in let no : ⊥ = cc in no
good-here m ms e broken (inr w) = let bad : incoming m ≡ Broken e = ap incoming_by broken in let is = w.0 in let no : ⊥ = cc in no

good-after : (m : List ℕ) (ms : List (List ℕ)) → incoming m ≡ Request → GoodHeaders (m ∷ ms) → GoodHeaders ms
good-after m ms goes (inl is) = absurd (let no : ⊥ = cc in no)
good-after m ms goes (inr w) = w.1

-- no run that goes on after each message comes to one without a good header
pub never-broken : (answered : List (List ℕ)) (last : List ℕ) (rest : List (List ℕ)) (e : RequestError)
    → AllGoOn answered → header last ≡ Err e → GoodHeaders (answered ++ last ∷ rest) → ⊥
never-broken [] last rest e go broken good = good-here last rest e broken good
never-broken (m ∷ ms) last rest e go broken good =
    never-broken ms last rest e go.1 broken (good-after m (ms ++ last ∷ rest) go.0 good)

not-failed : (Later : List (List ℕ) → Type 0) (e : HandshakeError) (end : HandshakeEnd) (rest : List (List ℕ)) → end ≡ Failed e → GoesWell Later end rest → ⊥
not-failed Later e end rest failed (inl w) = let is = w.0 in cc
not-failed Later e end rest failed (inr w) = let is = w.0.1 in cc

not-open : (Later : List (List ℕ) → Type 0) (end : HandshakeEnd) → end ≡ Open → GoesWell Later end [] → ⊥
not-open Later end is_open (inl w) = w.1
not-open Later end is_open (inr w) = let is = w.0.1 in cc

accepted-good : (end : HandshakeEnd) (rest : List (List ℕ)) → IsAccepted end → GoesWell GoodHeaders end rest → GoodHeaders rest
accepted-good end rest accepted (inl w) = absurd (let is = w.0 in let other = accepted.1 in let no : ⊥ = cc in no)
accepted-good end rest accepted (inr w) = w.1

-- what is told after the turns taken
pub record Told (turns all : List (List ℕ)) (after : SourceState) : Type 0 where
  pub left : List (List ℕ)
  pub is_left : after.turns ≡ Some left
  pub both : all ≡ turns ++ left

pub told-after : (turns all : List (List ℕ)) (a b : SourceState) → a.turns ≡ Some all → Takes turns a b → Told turns all b
told-after turns all a b told takes = by_left b.turns refl where
  by_left : (o : Option (List (List ℕ))) → b.turns ≡ o → Told turns all b
  by_left None is = absurd (let e = takes.turns ∙ ap (option_map (λ left. turns ++ left)) is in let no : ⊥ = cc in no)
  by_left (Some left) is = record {
    left = left;
    is_left = is;
    both = same all (turns ++ left) (sym told ∙ (takes.turns ∙ ap (option_map (λ left. turns ++ left)) is));
  } where
    same : (x y : List (List ℕ)) → Some x ≡ Some y → x ≡ y
    same x y h = cc

-- a source whose count stayed did not fail
pub no-failure : (a b : SourceState) → b.faults ≡ a.faults → a.faults < last_count → SourceFailed a b → ⊥
no-failure a b same low failed =
    let below : b.faults < last_count = omega (arith, same, low) in
    let rose : a.faults < b.faults = failed.1 below in omega (arith, rose, same)

-- what a handshake of messages that open well, all taken, left to come
goes-well : {F : Type 0} {setup : Setup F} {fs fs1 : F} {o : Outcome} {p q : Progress} (Later : List (List ℕ) → Type 0)
    (exchange : Exchange setup fs fs1 o p q) (turns : List (List ℕ)) → Takes exchange.turns p.source q.source
    → p.source.turns ≡ Some turns → Opens Later (map message turns) → AcceptsAll setup.promise.may_init fs
    → (left : List (List ℕ)) × (q.source.turns ≡ Some left)
    × GoesWell Later exchange.dialogue.end (exchange.dialogue.answered ++ (exchange.dialogue.refused ++ map message left))
goes-well {F} {setup} {fs} {fs1} {o} {p} {q} Later exchange turns takes told opens accepts = (
  left.left,
  left.is_left,
  handshake-well Later setup.promise.may_init setup.page fs fs1 d.hs (d.answered ++ (d.refused ++ later)) d.handshake_replies d.end accepts d.handshake
      (subst (Opens Later) all opens),
) where
  d : Dialogue setup fs fs1 o (NothingLeft q.source) (SourceFailed p.source q.source) (map message exchange.turns) exchange.sent exchange.notes exchange.lost
  d = exchange.dialogue

  left : Told exchange.turns turns q.source
  left = told-after exchange.turns turns p.source q.source told takes

  later : List (List ℕ)
  later = map message left.left

  all : map message turns ≡ d.hs ++ (d.answered ++ (d.refused ++ later))
  all =
      ap (map message) left.both
      ∙ (map-append message exchange.turns left.left
      ∙ (ap (λ (ms : List (List ℕ)). ms ++ later) d.heard
      ∙ (append_assoc d.hs (d.answered ++ d.refused) later
      ∙ ap (λ (ms : List (List ℕ)). d.hs ++ ms) (append_assoc d.answered d.refused later))))

-- nothing is left, where the source tells what is
left-none : (s : SourceState) (left : List (List ℕ)) → s.turns ≡ Some left → NothingLeft s → left ≡ []
left-none s left told none = subst (λ (o : Option (List (List ℕ))). IfSome o (λ left. left ≡ [])) told none

session-goes : {F : Type 0} {setup : Setup F} {fs fs1 : F} {o : Outcome} {p q : Progress} (exchange : Exchange setup fs fs1 o p q)
    → Takes exchange.turns p.source q.source → SessionWell setup.promise.may_init setup.threads fs p.source q.source
    → (left : List (List ℕ)) × (q.source.turns ≡ Some left)
    × GoesWell GoodHeaders exchange.dialogue.end (exchange.dialogue.answered ++ (exchange.dialogue.refused ++ map message left))
session-goes {p = p} exchange takes well = goes-well GoodHeaders exchange well.turns takes well.told well.opens_well well.accepts

-- where nothing is amiss, a session ends well
pub Ok-from_exchange : {F : Type 0} {setup : Setup F} {fs fs1 : F} {p q : Progress} (o : Outcome) → Exchange setup fs fs1 o p q
    → SessionWell setup.promise.may_init setup.threads fs p.source q.source → o ≡ Ok tt
Ok-from_exchange (Ok u) exchange well = refl
Ok-from_exchange (Err (session.Conflict first second)) exchange well = absurd exchange.dialogue.ended
Ok-from_exchange (Err session.AutoUnmount) exchange well = absurd exchange.dialogue.ended
Ok-from_exchange (Err session.CloneFd) exchange well = absurd exchange.dialogue.ended
Ok-from_exchange (Err session.Memory) exchange well = absurd exchange.dialogue.ended
Ok-from_exchange {F} {setup} {fs} {fs1} {p} {q} (Err session.NotConnected) exchange well =
    let e = exchange.dialogue.ended in
    let goes = session-goes exchange (exchange.taken (λ is. cc)) well in
    let none = left-none q.source goes.0 goes.1 e.1 in
    absurd (not-open GoodHeaders exchange.dialogue.end e.0.0
    (subst (λ (ms : List (List ℕ)). GoesWell GoodHeaders exchange.dialogue.end ms)
    (ap (λ (a : List (List ℕ)). a ++ (exchange.dialogue.refused ++ map message goes.0)) e.0.1
    ∙ (ap (λ (r : List (List ℕ)). r ++ map message goes.0) e.0.2 ∙ ap (map message) none)) goes.2))
Ok-from_exchange {F} {setup} {fs} {fs1} {p} {q} (Err (session.InvalidData d)) exchange well =
    let goes = session-goes exchange (exchange.taken (λ is. cc)) well in
    absurd (by_part goes.0 goes.2 exchange.dialogue.ended)
  where
    answered : List (List ℕ)
    answered = exchange.dialogue.answered

    by_part : (left : List (List ℕ)) → GoesWell GoodHeaders exchange.dialogue.end (answered ++ (exchange.dialogue.refused ++ map message left))
        → EndedBy (Err (session.InvalidData d)) setup.threads exchange.dialogue.end answered exchange.dialogue.refused
        (NothingLeft q.source) (SourceFailed p.source q.source) → ⊥
    by_part left goes (inl e) =
        not-failed GoodHeaders (InvalidData d) exchange.dialogue.end (answered ++ (exchange.dialogue.refused ++ map message left)) e.0 goes
    by_part left goes (inr e) =
        never-broken answered e.2.2.0 (map message left) e.2.0 e.1 e.2.2.2
        (subst (λ (r : List (List ℕ)). GoodHeaders (answered ++ (r ++ map message left))) e.2.2.1
        (accepted-good exchange.dialogue.end (answered ++ (exchange.dialogue.refused ++ map message left)) e.0.0 goes))
Ok-from_exchange (Err (session.Unsupported v)) exchange well =
    absurd (not-failed GoodHeaders (Unsupported v) exchange.dialogue.end _ exchange.dialogue.ended.0 (session-goes exchange (exchange.taken (λ is. cc)) well).2)
Ok-from_exchange (Err (session.Init e)) exchange well =
    absurd (not-failed GoodHeaders (Init e) exchange.dialogue.end _ exchange.dialogue.ended.0 (session-goes exchange (exchange.taken (λ is. cc)) well).2)
Ok-from_exchange (Err session.Threads) exchange well = absurd (well.served exchange.dialogue.ended.1)
Ok-from_exchange {F} {setup} {fs} {fs1} {p} {q} (Err session.Receive) exchange well =
    absurd (no-failure p.source q.source well.unfailing.same well.unfailing.counts exchange.dialogue.ended.0)

-- where nothing is amiss with a handshake, it is accepted
pub never-unopened : {F : Type 0} {setup : Setup F} {fs fs1 : F} {p q : Progress} (o : Outcome) → OpensNone o → Unopened setup fs fs1 o p q
    → HandshakeWell setup.promise.may_init fs p.source q.source → ⊥
never-unopened {F} {setup} {fs} {fs1} {p} {q} (Err session.NotConnected) none unopened well =
    let exchange = unopened.exchange in
    let e = exchange.dialogue.ended in
    let goes = goes-well (λ _. Unit {0}) exchange well.turns (exchange.taken (λ is. cc)) well.told well.opens well.accepts in
    let nothing = left-none q.source goes.0 goes.1 e.1 in
    not-open (λ _. Unit {0}) exchange.dialogue.end e.0.0
    (subst (λ (ms : List (List ℕ)). GoesWell (λ _. Unit {0}) exchange.dialogue.end ms)
    (ap (λ (a : List (List ℕ)). a ++ (exchange.dialogue.refused ++ map message goes.0)) e.0.1
    ∙ (ap (λ (r : List (List ℕ)). r ++ map message goes.0) e.0.2 ∙ ap (map message) nothing)) goes.2)
never-unopened {F} {setup} {fs} {fs1} {p} {q} (Err (session.InvalidData d)) none unopened well = by_part unopened.exchange.dialogue.ended where
  by_part : EndedBy (Err (session.InvalidData d)) setup.threads unopened.exchange.dialogue.end unopened.exchange.dialogue.answered
      unopened.exchange.dialogue.refused (NothingLeft q.source) (SourceFailed p.source q.source) → ⊥
  by_part (inl e) = not-failed (λ _. Unit {0}) (InvalidData d) unopened.exchange.dialogue.end _ e.0
      (goes-well (λ _. Unit {0}) unopened.exchange well.turns (unopened.exchange.taken (λ is. cc)) well.told well.opens well.accepts).2
  by_part (inr e) = unopened.unaccepted e.0.0
never-unopened (Err (session.Unsupported v)) none unopened well =
    not-failed (λ _. Unit {0}) (Unsupported v) unopened.exchange.dialogue.end _ unopened.exchange.dialogue.ended.0
    (goes-well (λ _. Unit {0}) unopened.exchange well.turns (unopened.exchange.taken (λ is. cc)) well.told well.opens well.accepts).2
never-unopened (Err (session.Init e)) none unopened well =
    not-failed (λ _. Unit {0}) (Init e) unopened.exchange.dialogue.end _ unopened.exchange.dialogue.ended.0
    (goes-well (λ _. Unit {0}) unopened.exchange well.turns (unopened.exchange.taken (λ is. cc)) well.told well.opens well.accepts).2
never-unopened {F} {setup} {fs} {fs1} {p} {q} (Err session.Receive) none unopened well =
    no-failure p.source q.source well.unfailing.same well.unfailing.counts unopened.exchange.dialogue.ended.0
never-unopened o none unopened well = none

-- messages that open well begin with a handshake
opens-init : (i : InitArguments) (ms : List (List ℕ)) → (OpensWell ms → OpensAtLeast ms)
    → ((7 < i.major) × OpensWell ms) ⊎ ((i.major ≡ 7) × (6 ≤ i.minor) × GoodHeaders ms)
    → ((7 < i.major) × OpensAtLeast ms) ⊎ ((i.major ≡ 7) × (6 ≤ i.minor) × Unit {0})
opens-init i ms more (inl newer) = inl (newer.0, more newer.1)
opens-init i ms more (inr seven) = inr (seven.0, seven.1, tt)

opens-at_least : (ms : List (List ℕ)) → OpensWell ms → OpensAtLeast ms
opens-at_least [] opens = opens
opens-at_least (m ∷ ms) opens = (opens.0, opens.1, opens-init opens.0 ms (λ well. opens-at_least ms well) opens.2)

pub HandshakeWell-session : {F : Type 0} {may_init : MayInit F} {threads : Option ℕ} {fs : F} {a b : SourceState}
    → SessionWell may_init threads fs a b → HandshakeWell may_init fs a b
HandshakeWell-session well = record {
  turns = well.turns;
  told = well.told;
  opens = opens-at_least (map message well.turns) well.opens_well;
  accepts = well.accepts;
  unfailing = well.unfailing;
}
