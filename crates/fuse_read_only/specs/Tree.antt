-- A tree of files that is only looked at.
use Rattle.std.specs.Prelude.{ℕ, ◌+◌, ◌-◌, ◌^◌, List, [], ◌∷◌, Option, nat_lt, if◌then◌else◌}
use Rattle.fuse_wire.specs.declared.file_attr.FileAttr.{FileAttr}
use Rattle.fuse_wire.specs.declared.file_attr.FileType.{FileType}
use Rattle.fuse_reply.specs.Listing.{DirEntry}
use Rattle.fuse_read_only.specs.declared.files.Entry.{Entry}

-- what stands in a directory: a node, its kind, and its name there
pub record Member : Type 0 where
  pub ino : ℕ
  pub kind : FileType
  pub name : List ℕ

pub record Tree : Type 0 where
  -- the attributes of a node, where there is such a node
  pub attributes : (ino : ℕ) → Option FileAttr
  -- the attributes of the node that a name means in a directory
  pub names : (parent : ℕ) → (name : List ℕ) → Option FileAttr
  -- all bytes of a file, or what a symbolic link leads to
  pub contents : (ino : ℕ) → Option (List ℕ)
  -- what stands in a directory, in its order; nothing stands in what is none
  pub entries : (ino : ℕ) → List Member
  -- how many nanoseconds names and attributes hold
  pub ttl : ℕ

-- an entry without where its name lies in memory
abbrev pub member_of : Entry → Member
member_of entry = record { ino = entry.ino.0; kind = entry.kind; name = entry.name.now }

-- what stands in a directory, with the offset at which its listing goes on
abbrev pub followed_by : (offset : ℕ) → Member → DirEntry
followed_by offset m = record { ino = m.ino; offset = offset; kind = m.kind; name = m.name }

-- the last number of 8 bytes
abbrev pub last_offset : ℕ
last_offset = 2 ^ 64 - 1

-- these from a place on, each with the offset after it, which has 8 bytes
abbrev pub with_offsets : (place : ℕ) → List Member → List DirEntry
with_offsets place [] = []
with_offsets place (m ∷ members) = if nat_lt place last_offset then followed_by (place + 1) m ∷ with_offsets (place + 1) members else []
