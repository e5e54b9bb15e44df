-- The run of a session that was opened, to its end.
use Rattle.std.specs.Prelude.{◌≡◌, ◌≢◌, ◌⊎◌, ℕ, List, Option, Some, Err}
use Rattle.atomic_table.specs.Seated.{TableId}
use Rattle.fuse_wire.specs.Source.{SourceState}
use Rattle.fuse_wire.specs.Sink.{SinkState}
use Rattle.fuse_dispatch.specs.declared.access.Terms.{Terms}
use Rattle.fuse_loop.specs.EventLoop.{Run}
use Rattle.fuse_loop.specs.Progress.{Progress, progress}
use Rattle.fuse_loop.specs.declared.end.End.{End}
use Rattle.fuse_loop.specs.declared.transcript.Transcript.{Transcript}
use Rattle.fuse_dispatch.specs.OwedMessage.{OwedByPromise}
use Rattle.fuse_dispatch.specs.Promise.{Promise}
use Rattle.fuse_session.specs.Accounted.{Accounted, NeverLater}
use Rattle.fuse_session.specs.SessionEnd.{Outcome, run_outcome}
use Rattle.fuse_session.specs.declared.error.SessionError.TheVariants.{Threads}

-- what a contract sees of a session: the filesystem after the handshake, the source, the sink, who is served on what terms and by how
-- many threads, how far it is, and the line of notices that it sends
pub record Opened (F S K : Type 0) : Type 0 where
  pub filesystem : F
  pub source : S
  pub sink : K
  pub terms : Terms
  pub threads : Option ℕ
  pub progress : Progress
  pub line : TableId

-- How the later messages were served: where no thread was to serve none was taken; and else they were answered.
abbrev pub LaterServed : {F : Type 0} → Promise F → F → Terms → (threads : Option ℕ) → Outcome → (before after : Progress) → Type 0
LaterServed promise fs terms threads outcome before after =
    ((threads ≡ Some 0) × (outcome ≡ Err Threads) × (after ≡ before))
    ⊎ ((threads ≢ Some 0) × ((end : End) × (outcome ≡ run_outcome end)
    × Run (Accounted threads promise.defers (OwedByPromise promise fs terms)) end before after))

-- it was run to its end, at which `destroy` was called once; and all could be recorded, where no reply comes later
pub record Ran {F S K : Type 0} (promise : Promise F) (session : Opened F S K) (fs' : F) (outcome : Outcome)
    (source' : SourceState) (sink' : SinkState) (counts : Transcript) : Type 0 where
  pub unasked : List (List ℕ)
  pub ends : LaterServed promise session.filesystem session.terms session.threads outcome session.progress
      (progress source' sink' counts unasked)
  pub recorded : NeverLater session.threads promise.defers → counts.unrecorded ≡ 0
  pub destroyed : promise.may_destroy session.filesystem fs'
