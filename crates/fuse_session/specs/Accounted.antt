-- How the messages of a session are accounted for, by how many threads serve it, and by whether replies may come later.
use Rattle.std.specs.Prelude.{◌≡◌, ◌<◌, ℕ, Bool, false, List, Option, None, Some}
use Rattle.fuse_wire.specs.Sink.{Note}
use Rattle.fuse_reply.specs.declared.out.Out.{Out}
use Rattle.fuse_loop.specs.Incoming.{IsBroken}
use Rattle.fuse_core.specs.OnePerMessage.{InOrder, Owing, UpToOrder}
use Rattle.fuse_workers.specs.OnePerMessageLater.{OnePerMessageLater}

-- so many threads are more than one; where no number is given, one serves
abbrev pub ManyThreads : Option ℕ → Type 0
ManyThreads None = ⊥
ManyThreads (Some threads) = 1 < threads

-- no reply comes later: no more than one thread serves, or the filesystem never defers
abbrev pub NeverLater : (threads : Option ℕ) → (defers : Bool) → Type 0
NeverLater threads defers = ManyThreads threads → defers ≡ false

-- each message has the one frame or note that it is owed, or that was lost; or, where replies come later, the mark of one; and in order,
-- where no more than one thread serves
pub record Accounted (threads : Option ℕ) (defers : Bool) (owed : Owing) (messages frames : List (List ℕ)) (notes : List Note) (lost : List Out)
    : Type 0 where
  pub one_per_message : NeverLater threads defers → UpToOrder owed IsBroken messages frames notes lost
  pub in_order : ¬ (ManyThreads threads) → InOrder owed 0 messages frames notes lost
  pub later : OnePerMessageLater owed IsBroken messages frames notes lost
