-- A whole session from its two parts: the handshake, and the run after it.
use Rattle.std.proofs.Common.{◌≡◌, ◌≢◌, ◌++◌, ℕ, List, [], ◌∷◌, sym, ◌∙◌, ap, subst}
use Rattle.std.proofs.Common.{refl, map, Option, Some, Err, inl, inr, append-nil}
use Rattle.std.proofs.lemmas.List.{map-append}
use Rattle.fuse_wire.specs.Source.{Takes, message, NothingLeft, SourceFailed}
use Rattle.fuse_wire.specs.declared.flags.init_flags.InitFlags.{InitFlags}
use Rattle.fuse_wire.proofs.Devices.{Takes-then}
use Rattle.fuse_reply.specs.declared.out.Out.TheVariants.{Frame}
use Rattle.fuse_loop.specs.Incoming.{Incoming, EndsAfter, EndsWell, AllGoOn, incoming}
use Rattle.fuse_loop.specs.Incoming.Incoming.{Destroy}
use Rattle.fuse_workers.proofs.Accounts.{OnePerMessageLater-none}
use Rattle.fuse_session.specs.Accounted.{Accounted}
use Rattle.fuse_dispatch.specs.OwedMessage.{OwedByPromise}
use Rattle.fuse_dispatch.specs.Verdict.{terms}
use Rattle.fuse_session.specs.Handshake.{HandshakeEnd}
use Rattle.fuse_session.specs.HandshakeStep.{HandshakeRun}
use Rattle.fuse_loop.specs.EventLoop.{Run, RunEnds}
use Rattle.fuse_session.specs.Exchange.{Setup, RunFollows, EndedBy, Exchange, Unopened, terms_after}
use Rattle.fuse_session.specs.SessionEnd.{Outcome, handshake_error, run_outcome}
use Rattle.fuse_loop.specs.Progress.{Progress}
use Rattle.fuse_session.specs.declared.error.SessionError.TheVariants.{NotConnected, Threads, Receive}
use Rattle.fuse_loop.specs.declared.end.End.{End}
use Rattle.fuse_loop.specs.declared.end.End.TheVariants.{Gone, Destroyed, Broken, Failed}
use Rattle.fuse_session.specs.declared.greeting.HandshakeError.{HandshakeError}
use Rattle.fuse_session.specs.declared.greeting.HandshakeError.TheVariants as refusal
use Rattle.fuse_session.specs.declared.steps.HandshakeOutcome.{HandshakeOutcome}
use Rattle.fuse_session.specs.declared.steps.HandshakeOutcome.TheVariants as outcome
use Rattle.fuse_loop.proofs.Taking.{Begins-after, SourceFailed-after}
use Rattle.fuse_loop.proofs.Moving.{moves-then}

-- messages after which the run goes on, and then others
pub EndsWell-after : (xs ys : List (List ℕ)) (none_left : Type 0) → AllGoOn xs → EndsWell ys none_left → EndsWell (xs ++ ys) none_left
EndsWell-after [] ys none_left go ends = ends
EndsWell-after (x ∷ xs) ys none_left go ends =
    subst (λ (i : Incoming). EndsAfter i (xs ++ ys) (EndsWell (xs ++ ys) none_left)) (sym go.0) (EndsWell-after xs ys none_left go.1 ends)

-- where no message is left the last may be any request
pub EndsWell-all : (xs : List (List ℕ)) (none_left : Type 0) → AllGoOn xs → none_left → EndsWell xs none_left
EndsWell-all xs none_left go none = subst (λ (ms : List (List ℕ)). EndsWell ms none_left) (append-nil xs) (EndsWell-after xs [] none_left go none)

-- DESTROY alone
EndsWell-last : (last : List ℕ) (none_left : Type 0) → incoming last ≡ Destroy → EndsWell (last ∷ []) none_left
EndsWell-last last none_left is = subst (λ (i : Incoming). EndsAfter i [] (EndsWell [] none_left)) (sym is) refl

-- a session that was no more than its handshake
abbrev alone : {F : Type 0} {setup : Setup F} {fs fs1 : F} {found : HandshakeOutcome} {p q : Progress} (result : Outcome)
    (shook : HandshakeRun setup.promise.may_init setup.page found fs fs1 p q) → (result ≢ Err Receive → Takes shook.turns p.source q.source)
    → EndedBy result setup.threads shook.end [] [] (NothingLeft q.source) (SourceFailed p.source q.source)
    → Exchange setup fs fs1 result p q
alone {F} {setup} {fs} {fs1} {found} {p} {q} result shook takes ends = record {
  turns = shook.turns;
  sent = shook.sent;
  notes = [];
  lost = map Frame shook.lost;
  dialogue = record {
    hs = map message shook.turns;
    answered = [];
    refused = [];
    handshake_replies = shook.replies;
    handshake_sent = shook.sent;
    later_sent = [];
    end = shook.end;
    lost_first = shook.lost;
    lost_later = [];
    heard = sym (append-nil (map message shook.turns));
    handshake = shook.handshake;
    left_out = shook.left_out;
    accounted = record { one_per_message = λ _. (refl, refl, refl, refl); in_order = λ _. (refl, refl, refl); later = OnePerMessageLater-none };
    said = sym (append-nil shook.sent);
    missed = sym (append-nil (map Frame shook.lost));
    ended = ends;
  };
  begins = shook.begins;
  taken = takes;
  moved = shook.moved;
}

-- the handshake was accepted, but no thread was to serve
pub Exchange-unserved : {F : Type 0} {setup : Setup F} {fs fs1 : F} {p q : Progress} → setup.threads ≡ Some 0
    → {granted : InitFlags} → HandshakeRun setup.promise.may_init setup.page (outcome.Accepted granted) fs fs1 p q → Exchange setup fs fs1 (Err Threads) p q
Exchange-unserved none shook = alone (Err Threads) shook (λ _. shook.taken (λ is. cc)) (((_, shook.ended), refl, refl), none)

-- no message was left in the handshake
pub Unopened-gone : {F : Type 0} {setup : Setup F} {fs fs1 : F} {p q : Progress}
    → HandshakeRun setup.promise.may_init setup.page outcome.Gone fs fs1 p q → Unopened setup fs fs1 (Err NotConnected) p q
Unopened-gone shook = record {
  exchange = alone (Err NotConnected) shook (λ _. shook.taken (λ is. cc)) ((shook.ended.0, refl, refl), shook.ended.1);
  unaccepted = λ accepted. let is = accepted.1 in let open' = shook.ended.0 in cc;
}

-- the source failed in the handshake
pub Unopened-failed : {F : Type 0} {setup : Setup F} {fs fs1 : F} {p q : Progress}
    → HandshakeRun setup.promise.may_init setup.page outcome.Failed fs fs1 p q → Unopened setup fs fs1 (Err Receive) p q
Unopened-failed shook = record {
  exchange = alone (Err Receive) shook (λ other. absurd (other refl)) (shook.ended.1, inl (shook.ended.0, refl, refl));
  unaccepted = λ accepted. let is = accepted.1 in let open' = shook.ended.0 in cc;
}

-- a message was refused in the handshake
refused-by : {F : Type 0} (setup : Setup F) {fs fs1 : F} {p q : Progress} (e : HandshakeError)
    (shook : HandshakeRun setup.promise.may_init setup.page (outcome.Refused e) fs fs1 p q)
    → EndedBy (Err (handshake_error e)) setup.threads shook.end [] [] (NothingLeft q.source) (SourceFailed p.source q.source)
refused-by setup (refusal.InvalidData d) shook = inl (shook.ended, refl, refl)
refused-by setup (refusal.Unsupported v) shook = (shook.ended, refl, refl)
refused-by setup (refusal.Init n) shook = (shook.ended, refl, refl)

pub Unopened-refused : {F : Type 0} {setup : Setup F} {fs fs1 : F} {p q : Progress} (e : HandshakeError)
    → HandshakeRun setup.promise.may_init setup.page (outcome.Refused e) fs fs1 p q → Unopened setup fs fs1 (Err (handshake_error e)) p q
Unopened-refused {setup = setup} e shook = record {
  exchange = alone (Err (handshake_error e)) shook (λ _. shook.taken (λ is. cc)) (refused-by setup e shook);
  unaccepted = λ accepted. let is = accepted.1 in let failed = shook.ended in cc;
}

-- why a session ended whose run ended so
ended-run : (end : End) (threads : Option ℕ) (shook : HandshakeEnd) (answered refused : List (List ℕ))
    (none_left failed failed' : Type 0)
    → RunFollows threads shook → (failed → failed') → RunEnds end answered refused none_left failed
    → EndedBy (run_outcome end) threads shook answered refused none_left failed'
ended-run Gone threads shook answered refused none_left failed failed' served longer e =
    (served, e.0, EndsWell-all answered none_left e.1 e.2)
ended-run Destroyed threads shook answered refused none_left failed failed' served longer e = (
  served,
  e.0,
  subst (λ (ms : List (List ℕ)). EndsWell ms none_left) (sym e.1.2)
      (EndsWell-after e.1.0 (e.1.1 ∷ []) none_left e.1.3 (EndsWell-last e.1.1 none_left e.1.4)),
)
ended-run (Broken r) threads shook answered refused none_left failed failed' served longer e = inr (served, e.1, (r, refl, e.0))
ended-run Failed threads shook answered refused none_left failed failed' served longer e = (longer e.2, inr (served, e.1, e.0))

-- a session with a run after its handshake
pub Exchange-ran : {F : Type 0} {setup : Setup F} {fs fs1 : F} {end : End} {p q r : Progress} (granted : InitFlags) → setup.threads ≢ Some 0
    → HandshakeRun setup.promise.may_init setup.page (outcome.Accepted granted) fs fs1 p q
    → Run (Accounted setup.threads setup.promise.defers (OwedByPromise setup.promise fs1 (terms setup.acl setup.owner granted))) end q r
    → Exchange setup fs fs1 (run_outcome end) p r
Exchange-ran {F} {setup} {fs} {fs1} {end} {p} {q} {r} granted some shook run = record {
  turns = shook.turns ++ run.turns;
  sent = shook.sent ++ run.sent;
  notes = run.notes;
  lost = map Frame shook.lost ++ run.lost;
  dialogue = record {
    hs = map message shook.turns;
    answered = run.answered;
    refused = run.refused;
    handshake_replies = shook.replies;
    handshake_sent = shook.sent;
    later_sent = run.sent;
    end = shook.end;
    lost_first = shook.lost;
    lost_later = run.lost;
    heard = map-append message shook.turns run.turns ∙ ap (λ (ms : List (List ℕ)). map message shook.turns ++ ms) run.heard;
    handshake = shook.handshake;
    left_out = shook.left_out;
    accounted = subst (λ (e : HandshakeEnd). Accounted setup.threads setup.promise.defers (OwedByPromise setup.promise fs1 (terms_after setup e))
        run.answered run.sent run.notes run.lost) (sym shook.ended) run.order;
    said = refl;
    missed = refl;
    ended = ended-run end setup.threads shook.end run.answered run.refused
        (NothingLeft r.source) (SourceFailed q.source r.source)
        (SourceFailed p.source r.source) ((granted, shook.ended), some) (SourceFailed-after p.source q.source r.source took.faults) run.ended;
  };
  begins = Begins-after shook.turns run.turns p.source q.source took run.begins;
  taken = λ other. Takes-then shook.turns run.turns p.source q.source r.source took (run.taken (λ is. other (ap run_outcome is)));
  moved = moves-then shook.turns run.turns shook.moved run.moved;
} where
  took : Takes shook.turns p.source q.source
  took = shook.taken (λ is. cc)
