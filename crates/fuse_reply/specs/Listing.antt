-- Entries of a directory, as READDIR and READDIRPLUS list them (`struct fuse_dirent` and `struct fuse_direntplus` of `fuse.h`).
use Rattle.std.specs.Prelude.{ℕ, ◌+◌, ◌-◌, ◌/◌, ◌%◌, ◌≤◌, ◌^◌, ◌++◌, List, [], ◌∷◌, length, replicate, flat_map, min, nat_lt, if◌then◌else◌}
use Rattle.std.specs.Int.{w32, w64, to_le_bytes}
use Rattle.fuse_wire.specs.declared.file_attr.FileAttr.{FileAttr}
use Rattle.fuse_wire.specs.declared.file_attr.FileType.{FileType}
use Rattle.fuse_reply.specs.Sizes.{max_payload}
use Rattle.fuse_reply.specs.Attributes.{kind_bits, entry_payload}

-- an entry: its inode, the offset at which the listing goes on after it, what kind of file it is, and its name
pub record DirEntry : Type 0 where
  pub ino : ℕ
  pub offset : ℕ
  pub kind : FileType
  pub name : List ℕ

-- an entry with what a lookup of its name answers: how many nanoseconds name and attributes hold, the inode's generation, and
-- its attributes, which tell the inode and the kind
pub record PlusEntry : Type 0 where
  pub valid : ℕ
  pub generation : ℕ
  pub attr : FileAttr
  pub offset : ℕ
  pub name : List ℕ

-- the entry alone
abbrev pub without_lookup : PlusEntry → DirEntry
without_lookup e = record { ino = e.attr.ino.0; offset = e.offset; kind = e.attr.kind; name = e.name }

-- how many zero bytes bring so many bytes to a multiple of 8 (`FUSE_DIRENT_ALIGN`)
abbrev pub padding : ℕ → ℕ
padding size = (8 - size % 8) % 8

-- the type of an entry: the mode's, shifted right by 12 bits (`DT_` of `dirent.h`)
abbrev pub entry_type : FileType → ℕ
entry_type kind = kind_bits kind / 2 ^ 12

-- ino8 off8 namelen4 type4
unfoldable pub dirent_head : (ino offset namelen typ : ℕ) → List ℕ
dirent_head ino offset namelen typ = to_le_bytes w64 ino ++ to_le_bytes w64 offset ++ to_le_bytes w32 namelen ++ to_le_bytes w32 typ

-- `struct fuse_dirent`, with its name and zero bytes up to a multiple of 8
unfoldable pub dirent : DirEntry → List ℕ
dirent e = dirent_head e.ino e.offset (length e.name) (entry_type e.kind) ++ e.name ++ replicate (padding (length e.name)) 0

-- `struct fuse_direntplus`: an entry as a lookup answers it, and then as above
unfoldable pub direntplus : PlusEntry → List ℕ
direntplus e = entry_payload e.valid e.valid e.generation e.attr ++ dirent (without_lookup e)

-- entries, one after the other
abbrev pub listing : List DirEntry → List ℕ
listing = flat_map dirent

abbrev pub plus_listing : List PlusEntry → List ℕ
plus_listing = flat_map direntplus

-- so many bytes fit behind those that are held: both are no more than the size, and than a frame can carry
abbrev pub Fits : (size held more : ℕ) → Type 0
Fits size held more = held + more ≤ min size max_payload

-- each entry fits behind those before it, and behind so many bytes that were held first
abbrev pub EachFits : {E : Type 0} → (E → List ℕ) → (size held : ℕ) → List E → Type 0
EachFits spelling size held [] = Unit {0}
EachFits spelling size held (e ∷ entries) =
    Fits size held (length (spelling e)) × EachFits spelling size (held + length (spelling e)) entries

-- those of these entries that fit behind so many bytes, up to the first that does not
abbrev pub fitting : (size held : ℕ) → List DirEntry → List DirEntry
fitting size held [] = []
fitting size held (e ∷ entries) =
    if nat_lt (min size max_payload) (held + length (dirent e)) then [] else e ∷ fitting size (held + length (dirent e)) entries
