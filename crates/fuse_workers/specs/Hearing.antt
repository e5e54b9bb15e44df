-- What whoever takes messages for workers has taken, and why no more are.
use Rattle.std.specs.Prelude.{◌≡◌, ◌≢◌, ◌+◌, ◌++◌, ℕ, List, [], ◌∷◌, length, map}
use Rattle.fuse_wire.specs.Source.{Takes, message, NothingLeft, SourceFailed}
use Rattle.fuse_loop.specs.Incoming.{AllGoOn, HeaderRefused, id_of, incoming}
use Rattle.fuse_loop.specs.Incoming.Incoming.{Destroy as IsDestroy}
use Rattle.fuse_core.specs.OnePerMessage.{number_of}
use Rattle.fuse_loop.specs.declared.end.End.{End}
use Rattle.fuse_loop.specs.declared.end.End.TheVariants as end
use Rattle.fuse_loop.specs.Progress.{Begins, IntakeState}
use Rattle.fuse_workers.specs.declared.stopped.Stopped.{Stopped}
use Rattle.fuse_workers.specs.declared.stopped.Stopped.TheVariants.{Gone, Destroy, Broken, Failed}

-- these requests were taken, and the run goes on
pub record HearsOn (messages : List (List ℕ)) (before after : IntakeState) : Type 0 where
  pub turns : List (List ℕ)
  pub heard : map message turns ≡ messages
  pub go_on : AllGoOn messages
  pub taken : Takes turns before.source after.source
  pub received : (n : ℕ) → before.received ≡ number_of n → after.received ≡ number_of (n + length turns)

-- Why no more are taken, with the last message, or none: no message is left; it is DESTROY, of this number and id; it has no good header;
-- or the source failed.
abbrev pub StopsWith : Stopped → (number : ℕ) → (last : List (List ℕ)) → (none_left failed : Type 0) → Type 0
StopsWith Gone number last none_left failed = (last ≡ []) × none_left
StopsWith (Destroy seq id) number last none_left failed =
    (m : List ℕ) × (last ≡ m ∷ []) × (incoming m ≡ IsDestroy) × (id.0 ≡ id_of m) × (seq ≡ number)
StopsWith (Broken e) number last none_left failed = HeaderRefused e last
StopsWith Failed number last none_left failed = (last ≡ []) × failed

-- these requests were taken, and then the last message, of this number, or none
pub record HearsLast (stopped : Stopped) (number : ℕ) (messages : List (List ℕ)) (before after : IntakeState) : Type 0 where
  pub turns : List (List ℕ)
  pub last : List (List ℕ)
  pub heard : map message turns ≡ messages ++ last
  pub go_on : AllGoOn messages
  pub begins : Begins turns before.source
  pub taken : stopped ≢ Failed → Takes turns before.source after.source
  pub received : (n : ℕ) → before.received ≡ number_of n → after.received ≡ number_of (n + length turns)
  pub stops : StopsWith stopped number last (NothingLeft after.source) (SourceFailed before.source after.source)

-- the same from the first message on
abbrev pub Hears : Stopped → (messages : List (List ℕ)) → (before after : IntakeState) → Type 0
Hears stopped messages before after = HearsLast stopped (number_of (length messages)) messages before after

-- how a run ended whose messages are no more taken
abbrev pub end_of : Stopped → End
end_of Gone = end.Gone
end_of (Destroy seq id) = end.Destroyed
end_of (Broken e) = end.Broken e
end_of Failed = end.Failed
