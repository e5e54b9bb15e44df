-- What a late reply that was refused gives back.
use Rattle.std.specs.Prelude.{◌≡◌, ℕ, Some, None}
use Rattle.fuse_reply.specs.Door.{DoorSeen, LooksAt}
use Rattle.fuse_reply.specs.Queueing.{FoundFull}
use Rattle.fuse_reply.specs.declared.later.LateRefusal.{LateRefusal}
use Rattle.fuse_reply.specs.declared.later.LateRefusal.TheVariants.{Full, Closed}
use Rattle.fuse_reply.specs.declared.out.Out.{Out}

-- The token of that id and door, and the reply: the line was full, where the run's end was not marked yet; or it was, and the note
-- knows the number.
abbrev pub GivesBack : (id : ℕ) → DoorSeen → Out → LateRefusal → Type 0
GivesBack id door replied (Full later back seen) =
    (later.id.0 ≡ id) × LooksAt door later.door × (back ≡ replied) × FoundFull door.pass × (later.door.mark.known ≡ None)
GivesBack id door replied (Closed later back note) =
    (later.id.0 ≡ id) × LooksAt door later.door × (back ≡ replied) × (note.name ≡ door.mark.name)
    × (later.door.mark.known ≡ Some note.taken)
