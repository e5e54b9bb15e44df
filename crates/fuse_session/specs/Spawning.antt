-- Starting sessions in the background.
use Rattle.std.specs.Prelude.{◌≡◌, ℕ, Bool, true, false, Result, Err}
use Rattle.fuse_session.specs.Ran.{Opened}
use Rattle.fuse_session.specs.Starts.{CountsRefusal, StartsInline, StartsThread}
use Rattle.fuse_session.specs.declared.ended.Ended.{Ended as End}
use Rattle.fuse_session.specs.declared.background.SpawnError.{SpawnError}
use Rattle.fuse_session.specs.declared.background.SpawnError.TheVariants as spawn
use Rattle.fuse_session.specs.declared.spawner.Spawner.{Spawner}
use Rattle.fuse_session.specs.declared.spawner.Spawner.TheVariants as spawner

-- how many starts a spawner refused, up to the last count there is
abbrev pub refused_by : Spawner → ℕ
refused_by (spawner.Thread threads) = threads.refused
refused_by (spawner.Inline inline) = inline.refused

-- whether it starts a thread for each session; else it runs each at once
abbrev pub starts_threads : Spawner → Bool
starts_threads (spawner.Thread threads) = true
starts_threads (spawner.Inline inline) = false

-- a spawner stays of its kind, and starts none that is listed; one that runs sessions at once refuses no other
abbrev pub StartsByItsKind : {T E : Type 0} → Result T E → (before after : Spawner) → Type 0
StartsByItsKind result (spawner.Thread before) (spawner.Thread after) = StartsThread result before after
StartsByItsKind result (spawner.Inline before) (spawner.Inline after) = StartsInline result before after
StartsByItsKind result before after = ⊥

-- a spawner was to start a session: it counts that it refused, or else its count is what it was
abbrev pub StartsOne : {T E : Type 0} → Result T E → (before after : Spawner) → Type 0
StartsOne result before after = CountsRefusal result (refused_by before) (refused_by after) × StartsByItsKind result before after

-- a session that was opened was to be started; where none was, the spawner is as it was
abbrev pub StartsOpened : {B F S K : Type 0} → Result B (SpawnError F S K) → (before after : Spawner) → Type 0
StartsOpened (Err (spawn.Ended e)) before after = after ≡ before
StartsOpened result before after = StartsOne result before after

-- this holds of the end of a session that was not opened
abbrev pub HasEnded : {F S K : Type 0} → (End F S K → Type 0) → SpawnError F S K → Type 0
HasEnded holds (spawn.Ended e) = holds e
HasEnded holds (spawn.Refused session) = ⊥

-- the same, if it was not opened
abbrev pub IfEnded : {F S K : Type 0} → (End F S K → Type 0) → SpawnError F S K → Type 0
IfEnded holds (spawn.Ended e) = holds e
IfEnded holds (spawn.Refused session) = Unit {0}

-- this holds of the session, if it was opened and not started
abbrev pub IfRefused : {F S K : Type 0} → (Opened F S K → Type 0) → SpawnError F S K → Type 0
IfRefused holds (spawn.Ended e) = Unit {0}
IfRefused holds (spawn.Refused session) = holds session
