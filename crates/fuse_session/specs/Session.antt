-- A session in its two parts: a handshake opens it, and then it is run.
use Rattle.std.specs.Prelude.{◌≡◌, ℕ, [], Option, Ok, Err}
use Rattle.fuse_wire.specs.Source.{SourceState}
use Rattle.fuse_wire.specs.Sink.{SinkState}
use Rattle.fuse_config.specs.declared.session_acl.SessionACL.{SessionACL}
use Rattle.fuse_header.specs.declared.error.RequestError.{RequestError}
use Rattle.fuse_session.specs.Ran.{Opened}
use Rattle.fuse_session.specs.SessionEnd.{Outcome}
use Rattle.fuse_session.specs.Exchange.{Setup, setup_of}
use Rattle.fuse_session.specs.HandshakeStep.{HandshakeRun}
use Rattle.fuse_loop.specs.Progress.{nothing_yet, progress}
use Rattle.fuse_dispatch.specs.Promise.{Promise}
use Rattle.fuse_session.specs.declared.invalid_data.InvalidData.TheVariants.{Header}
use Rattle.fuse_session.specs.declared.error.SessionError.TheVariants.{NotConnected, InvalidData, Unsupported, Init, Threads, Receive}
use Rattle.fuse_session.specs.declared.steps.HandshakeOutcome.TheVariants.{Accepted}

abbrev pub setup_for : {F S K : Type 0} → Promise F → (page : ℕ) → Opened F S K → Setup F
setup_for promise page session = setup_of promise page session.threads session.terms.rule.acl session.terms.rule.owner

-- a handshake of this filesystem between this source and this sink, which was accepted, opened it
abbrev pub IsOpened : {F S K : Type 0} → Promise F → (page : ℕ) → (fs : F) → SourceState → SinkState → Opened F S K → Type 0
IsOpened promise page fs source sink session =
    HandshakeRun promise.may_init page (Accepted session.terms.granted) fs session.filesystem (progress source sink nothing_yet []) session.progress

-- those whom it serves, and by how many threads, are these
pub record Serves {F S K : Type 0} (acl : SessionACL) (owner : ℕ) (threads : Option ℕ) (session : Opened F S K) : Type 0 where
  pub acl_is : session.terms.rule.acl ≡ acl
  pub owner_is : session.terms.rule.owner ≡ owner
  pub threads_is : session.threads ≡ threads

-- an outcome of a handshake that opens no session
abbrev pub OpensNone : Outcome → Type 0
OpensNone (Err NotConnected) = Unit {0}
OpensNone (Err (InvalidData d)) = Unit {0}
OpensNone (Err (Unsupported v)) = Unit {0}
OpensNone (Err (Init e)) = Unit {0}
OpensNone (Err Receive) = Unit {0}
OpensNone o = ⊥

-- an outcome of a run
abbrev pub EndsRun : Outcome → Type 0
EndsRun (Ok u) = Unit {0}
EndsRun (Err (InvalidData d)) = (e : RequestError) × (d ≡ Header e)
EndsRun (Err Threads) = Unit {0}
EndsRun (Err Receive) = Unit {0}
EndsRun o = ⊥
