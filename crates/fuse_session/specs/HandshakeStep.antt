-- The handshake as it is run: what it takes, what its messages get, and how it ends.
use Rattle.std.specs.Prelude.{◌≡◌, ◌≢◌, ◌++◌, ℕ, List, [], Option, None, Some, Result, Ok, Err, map, length}
use Rattle.fuse_wire.specs.Source.{Takes, message, NothingLeft, SourceFailed}
use Rattle.fuse_wire.specs.declared.flags.init_flags.InitFlags.{InitFlags}
use Rattle.fuse_reply.specs.declared.out.Out.TheVariants.{Frame}
use Rattle.fuse_dispatch.specs.Promise.{MayInit}
use Rattle.fuse_session.specs.Handshake.{HandshakeEnd, Handshake}
use Rattle.fuse_session.specs.Handshake.HandshakeEnd.{Open, Accepted, Failed as IsFailed}
use Rattle.fuse_loop.specs.Progress.{Progress, Moves, Begins, LeavesOut}
use Rattle.fuse_session.specs.declared.greeting.HandshakeError.{HandshakeError}
use Rattle.fuse_session.specs.declared.steps.HandshakeOutcome.{HandshakeOutcome}
use Rattle.fuse_session.specs.declared.steps.HandshakeOutcome.TheVariants as outcome

-- the end of a handshake where `init` accepted and this was granted, or why not
abbrev pub end_after_init : Result InitFlags HandshakeError → HandshakeEnd
end_after_init (Ok granted) = Accepted granted
end_after_init (Err e) = IsFailed e

-- how the outcome tells of the handshake's end
abbrev pub HandshakeEnds : HandshakeOutcome → HandshakeEnd → (none_left failed : Type 0) → Type 0
HandshakeEnds (outcome.Accepted granted) end none_left failed = end ≡ Accepted granted
HandshakeEnds outcome.Gone end none_left failed = (end ≡ Open) × none_left
HandshakeEnds (outcome.Refused e) end none_left failed = end ≡ IsFailed e
HandshakeEnds outcome.Failed end none_left failed = (end ≡ Open) × failed

-- a handshake, from its first message on
pub record HandshakeRun {F : Type 0} (may_init : MayInit F) (page : ℕ) (found : HandshakeOutcome) (fs fs1 : F) (before after : Progress) : Type 0 where
  pub turns : List (List ℕ)
  pub replies : List (List ℕ)
  pub sent : List (List ℕ)
  pub lost : List (List ℕ)
  pub end : HandshakeEnd
  pub handshake : Handshake may_init page fs (map message turns) replies fs1 end
  pub left_out : LeavesOut lost replies sent
  pub moved : Moves (length turns) sent [] (map Frame lost) before after
  pub begins : Begins turns before.source
  pub taken : found ≢ outcome.Failed → Takes turns before.source after.source
  pub ended : HandshakeEnds found end (NothingLeft after.source) (SourceFailed before.source after.source)

-- a handshake so far, after which the next message is awaited
pub record HandshakeOn {F : Type 0} (may_init : MayInit F) (page : ℕ) (fs fs1 : F) (before after : Progress) : Type 0 where
  pub turns : List (List ℕ)
  pub replies : List (List ℕ)
  pub sent : List (List ℕ)
  pub lost : List (List ℕ)
  pub same : fs1 ≡ fs
  pub go : (ms later : List (List ℕ)) (fs2 : F) (end : HandshakeEnd) → Handshake may_init page fs ms later fs2 end
      → Handshake may_init page fs (map message turns ++ ms) (replies ++ later) fs2 end
  pub left_out : LeavesOut lost replies sent
  pub moved : Moves (length turns) sent [] (map Frame lost) before after
  pub taken : Takes turns before.source after.source

-- one message of it, or none
abbrev pub OneStep : {F : Type 0} → MayInit F → (page : ℕ) → Option HandshakeOutcome → F → F → (before after : Progress) → Type 0
OneStep may_init page None fs fs1 before after = HandshakeOn may_init page fs fs1 before after
OneStep may_init page (Some found) fs fs1 before after = HandshakeRun may_init page found fs fs1 before after
