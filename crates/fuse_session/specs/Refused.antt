-- Why a session is refused before anything is taken: what its options have to do with it.
use Rattle.std.specs.Prelude.{◌≡◌, ◌⊎◌, Bool, true, false, Ok, Err, IsTrue}
use Rattle.std.specs.List.{list_any}
use Rattle.fuse_config.specs.Conflicts.{FirstConflict, NoConflict}
use Rattle.fuse_config.specs.declared.config.Config.{Config}
use Rattle.fuse_config.specs.declared.mount_option.MountOption.{MountOption}
use Rattle.fuse_config.specs.declared.mount_option.MountOption.TheVariants as option
use Rattle.fuse_config.specs.declared.session_acl.SessionACL.TheVariants.{Owner}
use Rattle.fuse_session.specs.Accounted.{ManyThreads}
use Rattle.fuse_session.specs.SessionEnd.{Outcome}
use Rattle.fuse_loop.specs.Progress.{nothing_yet}
use Rattle.fuse_loop.specs.Lines.{IsUnused}
use Rattle.fuse_notify.specs.Queueing.{fresh_door}
use Rattle.fuse_session.specs.declared.options.SessionMemory.{SessionMemory}
use Rattle.fuse_session.specs.declared.ended.Ended.{Ended}
use Rattle.fuse_session.specs.declared.error.SessionError.{SessionError}
use Rattle.fuse_session.specs.declared.error.SessionError.TheVariants.{Conflict, AutoUnmount, CloneFd, Memory}

-- the option that asks for an unmount when the session's process exits
abbrev pub is_auto_unmount : MountOption → Bool
is_auto_unmount option.AutoUnmount = true
is_auto_unmount _ = false

-- it is listed, but the owner's requests alone are served
abbrev pub UnmountsForOwner : Config → Type 0
UnmountsForOwner config = IsTrue (list_any is_auto_unmount config.mount_options) × (config.acl ≡ Owner)

-- each thread is to have a device of its own, and there is more than one
abbrev pub ClonesDevice : Config → Type 0
ClonesDevice config = IsTrue config.clone_fd × ManyThreads config.n_threads

-- nothing is amiss with the options
pub record OptionsWell (config : Config) : Type 0 where
  pub no_conflict : NoConflict config.mount_options
  pub no_unmount : ¬ (UnmountsForOwner config)
  pub no_clone : ¬ (ClonesDevice config)

-- where the options are refused so: each cause counts where none of those before it holds
abbrev pub RefusedAs : Config → SessionError → Type 0
RefusedAs config (Conflict first second) = FirstConflict config.mount_options first second
RefusedAs config AutoUnmount = NoConflict config.mount_options × UnmountsForOwner config
RefusedAs config CloneFd = NoConflict config.mount_options × ¬ (UnmountsForOwner config) × ClonesDevice config
RefusedAs config _ = ⊥

-- an error that the options are the cause of
abbrev pub OfOptions : SessionError → Type 0
OfOptions (Conflict first second) = Unit {0}
OfOptions AutoUnmount = Unit {0}
OfOptions CloneFd = Unit {0}
OfOptions _ = ⊥

-- nothing was taken for this outcome: the options were refused, or no memory was to be had
abbrev pub Untouched : Outcome → Type 0
Untouched (Ok u) = ⊥
Untouched (Err Memory) = Unit {0}
Untouched (Err e) = OfOptions e

-- why a session does not begin
abbrev pub NotBegun : Config → SessionError → Type 0
NotBegun config e = RefusedAs config e ⊎ ((e ≡ Memory) × OptionsWell config)

-- all is handed back as it was handed in, and nothing was counted
abbrev pub IsUntouched : {F S K : Type 0} → F → S → K → Ended F S K → Type 0
IsUntouched fs source sink ended =
    (ended.filesystem ≡ fs) × (ended.source ≡ source) × (ended.sink ≡ sink) × (ended.transcript ≡ nothing_yet)

-- the memory of a session was taken: nobody used it yet, and the notifier is of its line
abbrev pub IsTaken : SessionMemory → Type 0
IsTaken memory = IsUnused memory.buffers × (memory.notifier ≡ fresh_door memory.buffers.frames.line)
