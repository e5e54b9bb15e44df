-- What contracts see of a door, and what goes through it.
use Rattle.std.specs.Prelude.{◌≡◌, ℕ, List, None, Result, Ok, Err}
use Rattle.fuse_line.specs.Seen.{Seen}
use Rattle.fuse_line.specs.declared.line.Full.{Full}
use Rattle.fuse_reply.specs.EndMark.{EndMarkSeen}
use Rattle.fuse_reply.specs.Late.{late}
use Rattle.fuse_reply.specs.Queueing.{with_parcel, FoundFull}
use Rattle.fuse_reply.specs.declared.out.Out.{Out}
use Rattle.fuse_reply.specs.declared.out.Out.TheVariants.{Frame, Note, Deferred}
use Rattle.fuse_reply.specs.declared.parcel.Parcel.{Parcel}
use Rattle.fuse_reply.specs.declared.parcel.Parcel.TheVariants.{Late}

-- a door: the number of the message, a pass of the line, and a share of the run's end mark
pub record DoorSeen : Type 0 where
  pub seq : ℕ
  pub pass : Seen Parcel
  pub mark : EndMarkSeen

-- just this frame was queued, with the door's number; or it came back, and nothing was, since the line was full
abbrev pub PushesLate : Result (Unit {0}) (Full (List ℕ)) → (id : ℕ) → (frame : List ℕ) → (before after : DoorSeen) → Type 0
PushesLate (Ok done) id frame before after = after ≡ record before { pass = with_parcel before.pass (Late (late before.seq id frame)) }
PushesLate (Err full) id frame before after = (full.item ≡ frame) × (after ≡ before) × FoundFull before.pass

-- just the frame that a reply was spent into was queued
abbrev pub QueuesJust : (id : ℕ) → Out → (before after : DoorSeen) → Type 0
QueuesJust id (Frame bytes) before after = PushesLate (Ok tt) id bytes before after
QueuesJust id (Note other mark) before after = ⊥
QueuesJust id (Deferred seq other) before after = ⊥

-- the same by a door that found no end marked: it looked at the mark first
abbrev pub QueuesLate : (id : ℕ) → Out → (before after : DoorSeen) → Type 0
QueuesLate id (Frame bytes) before after =
    (after.seq ≡ before.seq) × (after.pass ≡ with_parcel before.pass (Late (late before.seq id bytes)))
    × (after.mark.name ≡ before.mark.name) × (after.mark.known ≡ None)
QueuesLate id (Note other mark) before after = ⊥
QueuesLate id (Deferred seq other) before after = ⊥

-- what has read the mark keeps all else
abbrev pub LooksAt : (before after : DoorSeen) → Type 0
LooksAt before after =
    (after.seq ≡ before.seq) × (after.pass ≡ before.pass) × (after.mark.name ≡ before.mark.name) × (after.mark.set ≡ before.mark.set)
