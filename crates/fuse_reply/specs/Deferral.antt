-- What contracts see of a reply, and what comes of putting it off.
use Rattle.std.specs.Prelude.{◌≡◌, ℕ, Bool, true, false, Result, Ok, Err}
use Rattle.fuse_reply.specs.Door.{DoorSeen}
use Rattle.fuse_reply.specs.declared.door.NoDoor.{NoDoor}
use Rattle.fuse_reply.specs.declared.door.NoDoor.TheVariants.{Shut}
use Rattle.fuse_reply.specs.declared.out.Out.{Out}
use Rattle.fuse_reply.specs.declared.out.Out.TheVariants.{Deferred}

-- a reply: its request's id, and what it may go through later, or why it may not
pub record ReplySeen : Type 0 where
  pub id : ℕ
  pub door : Result DoorSeen NoDoor

-- one that may not come later
abbrev pub prompt_reply : (id : ℕ) → ReplySeen
prompt_reply id = record { id = id; door = Err Shut }

-- a reply to INTERRUPT: its request's id, and the id of the request that is to be cut short
pub record InterruptSeen : Type 0 where
  pub id : ℕ
  pub target : ℕ

abbrev pub has_door : Result DoorSeen NoDoor → Bool
has_door (Ok door) = true
has_door (Err none) = false

-- a reply that has a door is put off: what goes out now says so, by the door's number and the reply's id, and its token has both
abbrev pub PutsOff : (id : ℕ) → Result DoorSeen NoDoor → (out : Out) → (later : ℕ) → DoorSeen → Type 0
PutsOff id door out later through = (door ≡ Ok through) × (out ≡ Deferred through.seq (record { 0 = id })) × (later ≡ id)
