-- A session from its two parts, the one that opened it and the one that ran it.
use Rattle.std.proofs.Common.{◌≡◌, ◌≢◌, ◌↔◌, ◌∙◌, ◌++◌, ℕ, List, [], Option, Some, Ok, Err, inl, inr, refl, sym, ap, subst, map, append_assoc}
use Rattle.std.proofs.lemmas.List.{map-append}
use Rattle.fuse_wire.specs.Source.{SourceState, message}
use Rattle.fuse_wire.specs.Sink.{SinkState}
use Rattle.fuse_session.specs.Accounted.{Accounted, ManyThreads, NeverLater}
use Rattle.fuse_session.specs.Complete.{GoodHeaders, RunWell, Unfailing}
use Rattle.fuse_loop.specs.EventLoop.{Run}
use Rattle.fuse_session.specs.Exchange.{Closed, Exchange, Mounted, Setup, Unopened, setup_of}
use Rattle.fuse_session.specs.SessionEnd.{Outcome, handshake_error, run_outcome}
use Rattle.fuse_session.specs.Headline.{Headline, LaterHeadline, Lossless, OrderedHeadline}
use Rattle.fuse_dispatch.specs.OwedMessage.{OwedByPromise}
use Rattle.fuse_core.specs.OnePerMessage.{Accounting}
use Rattle.fuse_loop.specs.Progress.{Progress, nothing_yet, progress}
use Rattle.fuse_dispatch.specs.Promise.{Promise}
use Rattle.fuse_session.specs.Ran.{LaterServed, Opened, Ran}
use Rattle.fuse_session.specs.Session.{EndsRun, IsOpened, OpensNone, setup_for}
use Rattle.fuse_session.specs.declared.error.SessionError.TheVariants.{Threads}
use Rattle.fuse_loop.specs.declared.end.End.{End}
use Rattle.fuse_loop.specs.declared.end.End.TheVariants.{Gone, Destroyed, Broken, Failed}
use Rattle.fuse_config.specs.declared.session_acl.SessionACL.{SessionACL}
use Rattle.fuse_session.specs.declared.greeting.HandshakeError.{HandshakeError}
use Rattle.fuse_session.specs.declared.greeting.HandshakeError.TheVariants as refusal
use Rattle.fuse_loop.specs.declared.transcript.Transcript.{Transcript}
use Rattle.fuse_session.proofs.Completing.{never-broken, no-failure, told-after}
use Rattle.fuse_session.proofs.Exchanging.{Exchange-ran, Exchange-unserved}
use Rattle.fuse_session.proofs.Headlining.{Headline-from_exchange, LaterHeadline-from_exchange, OrderedHeadline-from_exchange}

-- a handshake that was accepted and a run after it are a session
pub Exchange-opened : {F S K : Type 0} (promise : Promise F) (page : ℕ) (fs : F) (source : SourceState) (sink : SinkState) (session : Opened F S K)
    (outcome : Outcome) (after : Progress) → IsOpened promise page fs source sink session
    → LaterServed promise session.filesystem session.terms session.threads outcome session.progress after
    → Exchange (setup_for promise page session) fs session.filesystem outcome (progress source sink nothing_yet []) after
Exchange-opened {F} promise page fs source sink session outcome after opened (inl none) =
    subst (λ (p : Progress). Exchange (setup_for promise page session) fs session.filesystem outcome (progress source sink nothing_yet []) p)
    (sym none.2)
    (subst (λ (o : Outcome). Exchange (setup_for promise page session) fs session.filesystem o (progress source sink nothing_yet []) session.progress)
    (sym none.1) (Exchange-unserved {setup = setup_for promise page session} none.0 opened))
Exchange-opened {F} promise page fs source sink session outcome after opened (inr ran) =
    subst (λ (o : Outcome). Exchange (setup_for promise page session) fs session.filesystem o (progress source sink nothing_yet []) after)
    (sym ran.1.1) (Exchange-ran {setup = setup_for promise page session} session.terms.granted ran.0 opened ran.1.2)

pub Mounted-ran : {F S K : Type 0} (promise : Promise F) (page : ℕ) (fs fs' : F) (source source' : SourceState) (sink sink' : SinkState)
    (session : Opened F S K) (outcome : Outcome) (counts : Transcript) → IsOpened promise page fs source sink session
    → Ran promise session fs' outcome source' sink' counts
    → Mounted (setup_for promise page session) fs fs' outcome source source' sink sink' counts
Mounted-ran promise page fs fs' source source' sink sink' session outcome counts opened ran = record {
  fs1 = session.filesystem;
  unasked = ran.unasked;
  exchange = Exchange-opened promise page fs source sink session outcome (progress source' sink' counts ran.unasked) opened ran.ends;
  destroyed = ran.destroyed;
}

-- a session that ended well has its one reply for each message
pub Headline-ran : {F S K : Type 0} (promise : Promise F) (page : ℕ) (fs fs' : F) (source source' : SourceState) (sink sink' : SinkState)
    (session : Opened F S K) (outcome : Outcome) (counts : Transcript) → NeverLater session.threads promise.defers → IsOpened promise page fs source sink session
    → Ran promise session fs' outcome source' sink' counts → outcome ≡ Ok tt → Lossless sink sink' counts
    → Headline promise page session.terms.rule.acl session.terms.rule.owner fs source source' sink sink'
Headline-ran promise page fs fs' source source' sink sink' session outcome counts never opened ran ok lossless =
    let s = setup_for promise page session in
    let p = progress source sink nothing_yet [] in
    let q = progress source' sink' counts ran.unasked in
    Headline-from_exchange {setup = s} {p = p} {q = q} never
    (subst (λ (o : Outcome). Exchange s fs session.filesystem o p q) ok
    (Exchange-opened promise page fs source sink session outcome q opened ran.ends)) refl lossless

-- in order, where no more than one thread serves
pub OrderedHeadline-ran : {F S K : Type 0} (promise : Promise F) (page : ℕ) (fs fs' : F) (source source' : SourceState) (sink sink' : SinkState)
    (session : Opened F S K) (outcome : Outcome) (counts : Transcript) → ¬ (ManyThreads session.threads) → IsOpened promise page fs source sink session
    → Ran promise session fs' outcome source' sink' counts → outcome ≡ Ok tt → Lossless sink sink' counts
    → OrderedHeadline promise page session.terms.rule.acl session.terms.rule.owner fs source source' sink sink'
OrderedHeadline-ran promise page fs fs' source source' sink sink' session outcome counts one opened ran ok lossless =
    let s = setup_for promise page session in
    let p = progress source sink nothing_yet [] in
    let q = progress source' sink' counts ran.unasked in
    OrderedHeadline-from_exchange {setup = s} {p = p} {q = q} one
    (subst (λ (o : Outcome). Exchange s fs session.filesystem o p q) ok
    (Exchange-opened promise page fs source sink session outcome q opened ran.ends)) refl lossless

-- or the mark of one that came later
pub LaterHeadline-ran : {F S K : Type 0} (promise : Promise F) (page : ℕ) (fs fs' : F) (source source' : SourceState) (sink sink' : SinkState)
    (session : Opened F S K) (outcome : Outcome) (counts : Transcript) → IsOpened promise page fs source sink session
    → Ran promise session fs' outcome source' sink' counts → outcome ≡ Ok tt → Lossless sink sink' counts
    → LaterHeadline promise page session.terms.rule.acl session.terms.rule.owner fs source source' sink sink'
LaterHeadline-ran promise page fs fs' source source' sink sink' session outcome counts opened ran ok lossless =
    let s = setup_for promise page session in
    let p = progress source sink nothing_yet [] in
    let q = progress source' sink' counts ran.unasked in
    LaterHeadline-from_exchange {setup = s} {p = p} {q = q}
    (subst (λ (o : Outcome). Exchange s fs session.filesystem o p q) ok
    (Exchange-opened promise page fs source sink session outcome q opened ran.ends)) refl lossless

-- where nothing is amiss, a run ends well
Ok-from_end : (accounting : Accounting) (end : End) (p q : Progress) (turns : List (List ℕ)) → Run accounting end p q → p.source.turns ≡ Some turns
    → GoodHeaders (map message turns) → Unfailing p.source q.source → run_outcome end ≡ Ok tt
Ok-from_end accounting Gone p q turns run told good unfailing = refl
Ok-from_end accounting Destroyed p q turns run told good unfailing = refl
Ok-from_end accounting (Broken e) p q turns run told good unfailing =
    let left = told-after run.turns turns p.source q.source told (run.taken (λ is. cc)) in
    let heard : map message turns ≡ run.answered ++ (run.refused ++ map message left.left) =
    ap (map message) left.both
    ∙ (map-append message run.turns left.left
    ∙ (ap (λ (ms : List (List ℕ)). ms ++ map message left.left) run.heard
    ∙ append_assoc run.answered run.refused (map message left.left))) in
    absurd (never-broken run.answered run.ended.0.0 (map message left.left) e run.ended.1 run.ended.0.2
    (subst (λ (r : List (List ℕ)). GoodHeaders (run.answered ++ (r ++ map message left.left))) run.ended.0.1
    (subst GoodHeaders heard good)))
Ok-from_end accounting Failed p q turns run told good unfailing = absurd (no-failure p.source q.source unfailing.same unfailing.counts run.ended.2)

pub Ok-from_run : {F S K : Type 0} (promise : Promise F) (session : Opened F S K) (fs' : F) (outcome : Outcome) (source' : SourceState) (sink' : SinkState)
    (counts : Transcript) → Ran promise session fs' outcome source' sink' counts → RunWell session source' → outcome ≡ Ok tt
Ok-from_run promise session fs' outcome source' sink' counts ran well =
    by_end ran.ends
  where
    by_end : LaterServed promise session.filesystem session.terms session.threads outcome session.progress
        (progress source' sink' counts ran.unasked) → outcome ≡ Ok tt
    by_end (inl none) = absurd (well.served none.0)
    by_end (inr some) =
        some.1.1 ∙ Ok-from_end (Accounted session.threads promise.defers (OwedByPromise promise session.filesystem session.terms)) some.1.0
        session.progress (progress source' sink' counts ran.unasked) well.turns some.1.2 well.told well.good
        well.unfailing

ends_run-outcome : (end : End) → EndsRun (run_outcome end)
ends_run-outcome Gone = tt
ends_run-outcome Destroyed = tt
ends_run-outcome (Broken e) = (e, refl)
ends_run-outcome Failed = tt

-- the outcome of a run is one of few
pub EndsRun-ran : {F S K : Type 0} {promise : Promise F} {session : Opened F S K} {fs' : F} {outcome : Outcome} {source' : SourceState} {sink' : SinkState}
    {counts : Transcript} → Ran promise session fs' outcome source' sink' counts → EndsRun outcome
EndsRun-ran {F} {S} {K} {promise} {session} {fs'} {outcome} {source'} {sink'} {counts} ran =
    by_end ran.ends
  where
    by_end : LaterServed promise session.filesystem session.terms session.threads outcome session.progress
        (progress source' sink' counts ran.unasked) → EndsRun outcome
    by_end (inl none) = subst (λ (o : Outcome). EndsRun o) (sym none.1) tt
    by_end (inr some) = subst (λ (o : Outcome). EndsRun o) (sym some.1.1) (ends_run-outcome some.1.0)

not_threads-outcome : (end : End) → run_outcome end ≢ Err Threads
not_threads-outcome Gone is = cc
not_threads-outcome Destroyed is = cc
not_threads-outcome (Broken e) is = cc
not_threads-outcome Failed is = cc

-- and it is that no thread is to serve exactly where their number is 0
pub Threads-ran : {F S K : Type 0} {promise : Promise F} {session : Opened F S K} {fs' : F} {outcome : Outcome} {source' : SourceState} {sink' : SinkState}
    {counts : Transcript} → Ran promise session fs' outcome source' sink' counts → (outcome ≡ Err Threads) ↔ (session.threads ≡ Some 0)
Threads-ran {F} {S} {K} {promise} {session} {fs'} {outcome} {source'} {sink'} {counts} ran =
    by_end ran.ends
  where
    by_end : LaterServed promise session.filesystem session.terms session.threads outcome session.progress
        (progress source' sink' counts ran.unasked) → (outcome ≡ Err Threads) ↔ (session.threads ≡ Some 0)
    by_end (inl none) = (λ _. none.0, λ _. none.1)
    by_end (inr some) = (λ is. absurd (not_threads-outcome some.1.0 (sym some.1.1 ∙ is)), λ is. absurd (some.0 is))

-- the outcome of a handshake that a message ended
pub opens_none-refused : (e : HandshakeError) → OpensNone (Err (handshake_error e))
opens_none-refused (refusal.InvalidData d) = tt
opens_none-refused (refusal.Unsupported v) = tt
opens_none-refused (refusal.Init n) = tt

-- a session that its handshake ended, and all that is left of it
pub Closed-unopened : {F : Type 0} (promise : Promise F) (page : ℕ) (threads : Option ℕ) (acl : SessionACL) (owner : ℕ) (fs fs1 fs' : F)
    (outcome found : Outcome) (before after : Progress) (source source' : SourceState) (sink sink' : SinkState) (counts : Transcript)
    → Unopened (setup_of promise page threads acl owner) fs fs1 found before after → before ≡ progress source sink nothing_yet []
    → outcome ≡ found → after ≡ progress source' sink' counts [] → promise.may_destroy fs1 fs'
    → Closed (setup_of promise page threads acl owner) fs fs' outcome source source' sink sink' counts
Closed-unopened {F} promise page threads acl owner fs fs1 fs' outcome found before after source source' sink sink' counts unopened start told
    handed_back destroyed =
    record {
      fs1 = fs1;
      unasked = [];
      unopened = subst (λ (o : Outcome). Unopened s fs fs1 o (progress source sink nothing_yet []) (progress source' sink' counts [])) (sym told)
          (subst (λ (p : Progress). Unopened s fs fs1 found p (progress source' sink' counts [])) start
          (subst (λ (q : Progress). Unopened s fs fs1 found before q) handed_back unopened));
      destroyed = destroyed;
    }
  where
    s : Setup F
    s = setup_of promise page threads acl owner
