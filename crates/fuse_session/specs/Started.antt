-- Sessions that were started.
use Rattle.std.specs.Prelude.{◌≡◌, Bool, true, false, List, [], ◌∷◌}
use Rattle.atomic_table.specs.Seated.{TableId}
use Rattle.fuse_line.specs.Hand.{hand}
use Rattle.fuse_line.specs.Seen.{Seen}
use Rattle.fuse_line.specs.declared.hand.Kind.TheVariants.{First, Inner}
use Rattle.fuse_wire.specs.Sink.{SinkState}
use Rattle.fuse_wire.specs.Source.{SourceState}
use Rattle.fuse_dispatch.specs.Promise.{Promise}
use Rattle.fuse_session.specs.Ran.{Opened, Ran}
use Rattle.fuse_session.specs.declared.carried.Carried.{Carried}
use Rattle.fuse_session.specs.declared.carried.Served.{Served}
use Rattle.fuse_session.specs.declared.running.Running.{Running}
use Rattle.fuse_session.specs.declared.running.Running.TheVariants.{OnThread, AtEnd}

-- a session on its way to its thread
abbrev pub carried : {F S K : Type 0} → Opened F S K → Carried F S K
carried session = record { runnable = session }

-- the pass of whoever hands sessions over by this line: these were handed over, and one other pass takes
abbrev pub handing : {F S K : Type 0} → (line : TableId) → (handed : List (Carried F S K)) → Seen (Carried F S K)
handing line handed = record { line = line; hand = hand First 1 handed [] }

-- the pass of a thread that took these
abbrev pub taking : {F S K : Type 0} → (line : TableId) → (taken : List (Carried F S K)) → Seen (Carried F S K)
taking line taken = record { line = line; hand = hand Inner 0 [] taken }

-- a session that came by this line, and no other, was run to its end
pub record ServedThere {F S K : Type 0} (promise : Promise F) (source : S → SourceState) (sink : K → SinkState) (line : TableId)
    (served : Served F S K) : Type 0 where
  pub session : Opened F S K
  pub took : served.pass ≡ taking line (carried session ∷ [])
  pub ran : Ran promise session served.ended.filesystem served.ended.outcome (source served.ended.source) (sink served.ended.sink)
      served.ended.transcript

-- what a contract sees of a session in the background: the session that was started, and whether a thread runs it
pub record Background (F S K : Type 0) : Type 0 where
  pub session : Opened F S K
  pub on_thread : Bool

-- the session that was started
abbrev pub started : {F S K : Type 0} → Running F S K → Opened F S K
started (OnThread session) = session
started (AtEnd session) = session

-- whether a thread runs it; else it was run to its end where it was started
abbrev pub is_on_thread : {F S K : Type 0} → Running F S K → Bool
is_on_thread (OnThread session) = true
is_on_thread (AtEnd session) = false
