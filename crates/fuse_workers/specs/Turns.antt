-- A turn of the caller, which takes messages for workers.
use Rattle.std.specs.Prelude.{◌≡◌, ◌++◌, ℕ, List, [], ◌∷◌, Option, None, Some, length}
use Rattle.fuse_core.specs.OnePerMessage.{Owing, number_of}
use Rattle.fuse_workers.specs.Hearing.{HearsLast, HearsOn}
use Rattle.fuse_workers.specs.Answered.{IsCaller}
use Rattle.fuse_core.specs.declared.state.Job.{Job}
use Rattle.fuse_line.specs.declared.hand.Hand.{Hand}
use Rattle.fuse_reply.specs.declared.parcel.Parcel.{Parcel}
use Rattle.fuse_loop.specs.Progress.{IntakeState}
use Rattle.fuse_workers.specs.declared.stopped.Stopped.{Stopped}

-- One turn, at any place of this number, of a caller that has handed in the messages before it: one request more was taken and handed
-- in; or no more are taken, and its passes are as they were.
abbrev pub TurnHeard : Owing → (seq : ℕ) → Option Stopped → (before after : IntakeState) → (j : Hand Job) (f : Hand Parcel) (j' : Hand Job) (f' : Hand Parcel)
    → Type 0
TurnHeard owed seq None before after j f j' f' = (ms : List (List ℕ)) → number_of (length ms) ≡ seq → IsCaller owed ms j f
    → (m : List ℕ) × HearsOn (m ∷ []) before after × IsCaller owed (ms ++ m ∷ []) j' f'
TurnHeard owed seq (Some stopped) before after j f j' f' =
    (j' ≡ j) × (f' ≡ f) × HearsLast stopped seq [] before after
