-- The caller where there is no sender: what it takes, answers and hands on itself, and what it takes off the line of frames.
use Rattle.std.specs.Prelude.{◌≡◌, ℕ, List, [], ◌∷◌, Option, None, Some}
use Rattle.fuse_reply.specs.declared.out.Out.{Out}
use Rattle.fuse_reply.specs.declared.parcel.Parcel.{Parcel}
use Rattle.fuse_workers.specs.HandingOn.{HandsOn, answered_last}
use Rattle.fuse_workers.specs.Hearing.{HearsLast, HearsOn}
use Rattle.fuse_loop.specs.Lines.{lates_in, notices_in}
use Rattle.fuse_core.specs.OnePerMessage.{Owing}
use Rattle.fuse_loop.specs.Progress.{IntakeState}
use Rattle.fuse_workers.specs.Relays.{RelayState, SendsOut}
use Rattle.fuse_workers.specs.declared.stopped.Stopped.{Stopped}

-- what goes out for the last message, of this number, was handed on, where it is answered; else nothing was
abbrev pub AnswersLast : Owing → (seq : ℕ) → (last : List (List ℕ)) → (before after : RelayState) → Type 0
AnswersLast owed seq [] before after = after ≡ before
AnswersLast owed seq (m ∷ more) before after = (more ≡ []) × (out : Out) × owed seq m out × SendsOut out before after

-- One turn: one request was taken, and what it is owed was handed on; or no more are taken.
abbrev pub TurnAlone : Owing → (seq : ℕ) → Option Stopped → (before after : IntakeState) → (relay relay' : RelayState) → Type 0
TurnAlone owed seq None before after relay relay' =
    (m : List ℕ) × HearsOn (m ∷ []) before after × (out : Out) × owed seq m out × SendsOut out relay relay'
TurnAlone owed seq (Some stopped) before after relay relay' =
    (hears : HearsLast stopped seq [] before after) × AnswersLast owed seq (answered_last stopped hears.last) relay relay'

-- Messages were taken and answered: what went out for them was handed on, and so were the parcels that were taken off the line.
pub record ServesAlone (owed : Owing) (stopped : Stopped) (taken : List Parcel) (before after : IntakeState) (relay relay' : RelayState) : Type 0 where
  pub parcels : List Parcel
  pub hands_on : HandsOn owed stopped before after relay relay' parcels
  pub same_notices : notices_in parcels ≡ notices_in taken
  pub same_late : lates_in parcels ≡ lates_in taken
