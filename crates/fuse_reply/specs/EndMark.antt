-- What contracts see of an end mark and of a note.
use Rattle.std.specs.Prelude.{◌≡◌, ℕ, [], Option, None}
use Rattle.atomic_table.specs.Seated.{TableId}
use Rattle.atomic_table.specs.declared.shared.Seat.{Seat}
use Rattle.fuse_reply.specs.declared.sight.Sight.{Sight}
use Rattle.fuse_reply.specs.declared.sight.Sight.TheVariants.{Storing, Reading}
use Rattle.fuse_reply.specs.SetOnce.{known_of}

-- a share of a mark: which mark it is, what the share has read, and what the Seal that it keeps has set
pub record EndMarkSeen : Type 0 where
  pub name : TableId
  pub known : Option ℕ
  pub set : Option ℕ

abbrev pub end_mark : (name : TableId) → (known set : Option ℕ) → EndMarkSeen
end_mark name known set = record { name = name; known = known; set = set }

-- a note: which mark it is of, and the number that was read
pub record EndNoteSeen : Type 0 where
  pub name : TableId
  pub taken : ℕ

-- what a seat has set: a reading one nothing
abbrev pub set_by : Sight → Option ℕ
set_by (Storing set) = set
set_by (Reading known) = None

-- a reading seat of the word of that name
abbrev pub IsReader : TableId → Seat (Unit {0}) Sight → Type 0
IsReader name seat = (seat.table_id ≡ name) × (seat.me ≡ (Reading (known_of seat.me.0), []))
