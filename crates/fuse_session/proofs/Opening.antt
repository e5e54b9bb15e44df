-- Why a session is not opened.
use Rattle.std.proofs.Common.{◌≡◌, ◌≢◌, ◌↔◌, ◌⊎◌, ◌∙◌, ℕ, [], Result, Ok, Err, inl, inr, ap, subst, sym}
use Rattle.std.specs.Prelude.{IfErr, MatchResult}
use Rattle.fuse_wire.specs.Source.{SourceState}
use Rattle.fuse_wire.specs.Sink.{SinkState}
use Rattle.fuse_config.specs.declared.config.Config.{Config}
use Rattle.fuse_session.specs.Complete.{AcceptsAll, HandshakeWell}
use Rattle.fuse_session.specs.Exchange.{Closed, Exchange, Setup}
use Rattle.fuse_session.specs.SessionEnd.{Outcome}
use Rattle.fuse_loop.specs.Progress.{nothing_yet, progress}
use Rattle.fuse_session.specs.Refused.{ClonesDevice, OfOptions}
use Rattle.fuse_session.specs.Session.{OpensNone}
use Rattle.fuse_session.specs.declared.ended.Ended.{Ended}
use Rattle.fuse_session.specs.declared.error.SessionError.{SessionError}
use Rattle.fuse_session.specs.declared.error.SessionError.TheVariants as error
use Rattle.fuse_loop.specs.declared.transcript.Transcript.{Transcript}
use Rattle.fuse_session.proofs.Completing.{never-refused, never-unopened}

OpensNone-options : (e : SessionError) → OpensNone (Err e) → OfOptions e → ⊥
OpensNone-options error.NotConnected none of = of
OpensNone-options (error.InvalidData d) none of = of
OpensNone-options (error.Unsupported v) none of = of
OpensNone-options (error.Init e) none of = of
OpensNone-options error.Receive none of = of
OpensNone-options e none of = none

-- where nothing is amiss with a handshake, it does not close the session
pub never-closed : {F : Type 0} {setup : Setup F} {fs fs' : F} {o : Outcome} {source source' : SourceState} {sink sink' : SinkState} {counts : Transcript}
    → OpensNone o → Closed setup fs fs' o source source' sink sink' counts → HandshakeWell setup.promise.may_init fs source source' → ⊥
never-closed {F} {setup} {fs} {fs'} {o} {source} {source'} {sink} {sink'} {counts} none closed well =
    never-unopened {setup = setup} {p = progress source sink nothing_yet []} {q = progress source' sink' counts closed.unasked} o none closed.unopened well

-- where `init` refuses nothing, its error does not close it
pub never-closed_by_init : {F : Type 0} {setup : Setup F} {fs fs' : F} {o : Outcome} {source source' : SourceState} {sink sink' : SinkState}
    {counts : Transcript} (n : ℕ) → Closed setup fs fs' o source source' sink sink' counts → AcceptsAll setup.promise.may_init fs → o ≢ Err (error.Init n)
never-closed_by_init {F} {setup} {fs} {fs'} {o} {source} {source'} {sink} {sink'} {counts} n closed accepts is =
    never-refused {setup = setup} {p = progress source sink nothing_yet []} {q = progress source' sink' counts closed.unasked} n
    (subst (λ (x : Outcome). Exchange setup fs closed.fs1 x (progress source sink nothing_yet []) (progress source' sink' counts closed.unasked)) is
    closed.unopened.exchange) accepts

-- what follows of each error
pub IfErr-map : {X E : Type 0} (r : Result X E) (P Q : E → Type 0) → ((e : E) → P e → Q e) → IfErr r P → IfErr r Q
IfErr-map (Ok x) P Q f h = tt
IfErr-map (Err e) P Q f h = f e h

-- an error of the options is none that a handshake comes to
pub no-options : {X F S K : Type 0} (r : Result X (Ended F S K)) (Closed' : Ended F S K → Type 0) (e : SessionError) → OfOptions e
    → IfErr r (λ ended. OpensNone ended.outcome × Closed' ended) → MatchResult r (λ _. ⊥) (λ ended. ended.outcome ≡ Err e) → ⊥
no-options (Ok x) Closed' e of closed failed = failed
no-options (Err ended) Closed' e of closed failed = OpensNone-options e (subst (λ (o : Outcome). OpensNone o) failed closed.0) of

-- a device of one thread is not refused: there was no memory
pub memory-alone : (config : Config) (e : SessionError) → ¬ (ClonesDevice config)
    → ((e ≡ error.CloneFd) × ClonesDevice config) ⊎ ((e ≡ error.Memory) × ¬ (ClonesDevice config)) → e ≡ error.Memory
memory-alone config e single (inl refused) = absurd (single refused.1)
memory-alone config e single (inr memory) = memory.0

-- and a device is refused for that reason alone
pub device-refused : (config : Config) (found e : SessionError) (o : Outcome) → o ≡ Err found → OfOptions e
    → ((found ≡ error.CloneFd) × ClonesDevice config) ⊎ ((found ≡ error.Memory) × ¬ (ClonesDevice config))
    → (o ≡ Err e) ↔ ((e ≡ error.CloneFd) × ClonesDevice config)
device-refused config found e o is of (inl refused) =
    (λ h. let same : e ≡ error.CloneFd = cc (is, h, refused.0) in (same, refused.1), λ x. is ∙ ap Err (refused.0 ∙ sym x.0))
device-refused config found e o is of (inr memory) = (
  λ h. let same : e ≡ error.Memory = cc (is, h, memory.0) in absurd (subst OfOptions same of),
  λ x. absurd (memory.1 x.1),
)
