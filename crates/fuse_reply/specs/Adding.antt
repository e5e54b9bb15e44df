-- A listing that is being made, and what comes of an entry that is added to it.
use Rattle.std.specs.Prelude.{◌≡◌, ◌++◌, ℕ, List, Bool, true, false, Result, Ok, Err, length}
use Rattle.fuse_reply.specs.Door.{DoorSeen}
use Rattle.fuse_reply.specs.Listing.{Fits}
use Rattle.fuse_reply.specs.declared.door.NoDoor.{NoDoor}

-- a listing that is being made: the request that it answers, what its reply may go through later, how many bytes it may have, and
-- those that it has
pub record ListingSeen : Type 0 where
  pub id : ℕ
  pub door : Result DoorSeen NoDoor
  pub size : ℕ
  pub held : List ℕ

-- what became of an entry of these bytes: it is taken exactly where it fits; where it does not (true), and for want of memory,
-- which only an entry that fits asks for, nothing changes
abbrev pub Adds : {E : Type 0} → Result Bool E → (entry : List ℕ) → ListingSeen → ListingSeen → Type 0
Adds (Ok false) entry before after =
    Fits before.size (length before.held) (length entry) × (after ≡ record before { held = before.held ++ entry })
Adds (Ok true) entry before after = (Fits before.size (length before.held) (length entry) → ⊥) × (after ≡ before)
Adds (Err e) entry before after = Fits before.size (length before.held) (length entry) × (after ≡ before)
