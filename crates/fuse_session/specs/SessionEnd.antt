-- The outcome of a session, by how its parts ended.
use Rattle.std.specs.Prelude.{Result, Ok, Err}
use Rattle.fuse_session.specs.declared.invalid_data.InvalidData.TheVariants.{Header}
use Rattle.fuse_session.specs.declared.error.SessionError.{SessionError}
use Rattle.fuse_session.specs.declared.error.SessionError.TheVariants.{InvalidData, Unsupported, Init, Receive}
use Rattle.fuse_loop.specs.declared.end.End.{End}
use Rattle.fuse_loop.specs.declared.end.End.TheVariants.{Gone, Destroyed, Broken, Failed}
use Rattle.fuse_session.specs.declared.greeting.HandshakeError.{HandshakeError}
use Rattle.fuse_session.specs.declared.greeting.HandshakeError.TheVariants as refusal

-- Ok, or why a session ended early
abbrev pub Outcome : Type 0
Outcome = Result (Unit {0}) SessionError

-- the error of a session whose handshake a message ended
abbrev pub handshake_error : HandshakeError → SessionError
handshake_error (refusal.InvalidData d) = InvalidData d
handshake_error (refusal.Unsupported v) = Unsupported v
handshake_error (refusal.Init e) = Init e

-- the outcome of a run that ended so
abbrev pub run_outcome : End → Outcome
run_outcome Gone = Ok tt
run_outcome Destroyed = Ok tt
run_outcome (Broken e) = Err (InvalidData (Header e))
run_outcome Failed = Err Receive
