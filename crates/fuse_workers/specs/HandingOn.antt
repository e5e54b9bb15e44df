-- What was taken and answered, and what was handed on for it.
use Rattle.std.specs.Prelude.{◌++◌, ℕ, List, []}
use Rattle.fuse_reply.specs.declared.out.Out.{Out}
use Rattle.fuse_reply.specs.declared.parcel.Parcel.{Parcel}
use Rattle.fuse_workers.specs.Hearing.{Hears}
use Rattle.fuse_core.specs.OnePerMessage.{Owing}
use Rattle.fuse_workers.specs.Pairing.{Pairs, numbered, outs_of}
use Rattle.fuse_loop.specs.Progress.{IntakeState}
use Rattle.fuse_workers.specs.Relays.{RelayState, Relays}
use Rattle.fuse_workers.specs.declared.stopped.Stopped.{Stopped}
use Rattle.fuse_workers.specs.declared.stopped.Stopped.TheVariants.{Gone, Destroy, Broken, Failed}

-- the last message, where it is answered: DESTROY alone is
abbrev pub answered_last : Stopped → (last : List (List ℕ)) → List (List ℕ)
answered_last (Destroy seq id) last = last
answered_last Gone last = []
answered_last (Broken e) last = []
answered_last Failed last = []

-- what goes out for messages is owed to them, each to another one
abbrev pub AnsweredBy : Owing → (messages : List (List ℕ)) → (outs : List Out) → Type 0
AnsweredBy owed messages outs = Pairs (λ (p : ℕ × List ℕ) (o : Out). owed p.0 p.1 o) (numbered 0 messages) outs

-- the messages were taken, and one out was handed on for each of those that are answered
abbrev pub Conducted : Owing → Stopped → (before after : IntakeState) → (outs : List Out) → Type 0
Conducted owed stopped before after outs =
    (ms : List (List ℕ)) × (hears : Hears stopped ms before after) × AnsweredBy owed (ms ++ answered_last stopped hears.last) outs

-- these parcels were handed on, and one out for each of the messages is in them
pub record HandsOn (owed : Owing) (stopped : Stopped) (before after : IntakeState) (relay relay' : RelayState) (parcels : List Parcel) : Type 0 where
  pub relays : Relays parcels relay relay'
  pub conducted : Conducted owed stopped before after (outs_of parcels)
