-- A directory with one file that can be written, of at most 4096 bytes.
use Rattle.std.specs.Prelude.{◌≡◌, ◌≤◌, ◌<◌, ◌+◌, ◌-◌, ◌++◌, ◌==◌, ◌&&◌, ℕ, List, [], ◌∷◌, Bool, false, Option, None, Some, Ok, MatchBool}
use Rattle.std.specs.Prelude.{codes, drop, if◌then◌else◌, length, max, min, replicate, take}
use Rattle.std.specs.Str.{bytes_eq}
use Rattle.uses.specs.declared.notepad_nodes.Node.{Node}
use Rattle.uses.specs.declared.notepad_nodes.Node.TheVariants.{File, Root, Absent}
use Rattle.fuse_wire.specs.ErrorNumbers.{EISDIR, ENOENT, ENOSPC, EPERM}
use Rattle.fuse_wire.specs.FileAttr.{root_attr}
use Rattle.fuse_wire.specs.Times.{nanos_per_second}
use Rattle.fuse_wire.specs.declared.file_attr.FileAttr.{FileAttr}
use Rattle.fuse_wire.specs.declared.file_attr.FileType.TheVariants.{Directory, RegularFile}
use Rattle.fuse_request.specs.Call.{Call}
use Rattle.fuse_request.specs.Call.Call.{Lookup, GetAttr, SetAttr, Open, Read, Write, ReadDir}
use Rattle.fuse_reply.specs.Answer.{Answer}
use Rattle.fuse_reply.specs.Answer.Answer.{Error, Data, Entry, Attr, Open as Opened, Write as Written}
use Rattle.fuse_dispatch.specs.Defaults.{default_answer, default_mark}
use Rattle.fuse_dispatch.specs.Promise.{Promise}
use Rattle.fuse_read_only.specs.Tree.{Member, Tree}
use Rattle.fuse_read_only.specs.ReadOnly.{MayHave as MayRead}

-- how many bytes the file may have
abbrev pub capacity : ℕ
capacity = 4096

-- the attributes of the directory 1, of mode 0o755
abbrev pub directory : FileAttr
directory = root_attr 1 Directory 493 2 0

-- those of the file 2, of mode 0o644, where it has so many bytes
abbrev pub note : (size : ℕ) → FileAttr
note size = root_attr 2 RegularFile 420 1 size

-- what stands in the directory
abbrev pub members : List Member
members =
    record { ino = 1; kind = Directory; name = codes "." }
    ∷ record { ino = 1; kind = Directory; name = codes ".." }
    ∷ record { ino = 2; kind = RegularFile; name = codes "note" }
    ∷ []

-- the tree of which READDIR is answered: the directory alone
abbrev pub listed_tree : Tree
listed_tree = record {
  attributes = λ ino. if ino == 1 then Some directory else None;
  names = λ parent name. None;
  contents = λ ino. None;
  entries = λ ino. if ino == 1 then members else [];
  ttl = nanos_per_second;
}

-- the name means the file
abbrev pub is_note : (parent : ℕ) → (name : List ℕ) → Bool
is_note parent name = (parent == 1) && bytes_eq name (codes "note")

-- the attributes of the file, which has a size that it may have
abbrev pub IsNote : FileAttr → Type 0
IsNote attr = (size : ℕ) × (size ≤ capacity) × (attr ≡ note size)

-- the answer is such attributes
abbrev pub OfNote : Answer → Type 0
OfNote a = (attr : FileAttr) × IsNote attr × (a ≡ Attr nanos_per_second attr)

-- which node a number is
abbrev pub node_of : (ino : ℕ) → Node
node_of ino = if ino == 2 then File else if ino == 1 then Root else Absent

-- what a call on a node may be answered: the file by its own, the directory so, and what is not there by ENOENT
abbrev pub ByNode : Node → (of_note of_directory : Type 0) → Answer → Type 0
ByNode File of_note of_directory a = of_note
ByNode Root of_note of_directory a = of_directory
ByNode Absent of_note of_directory a = a ≡ Error ENOENT

-- the bytes of that size: cut there, or made longer by zero bytes
abbrev pub resized : (size : ℕ) → List ℕ → List ℕ
resized size bytes = take size bytes ++ replicate (size - length bytes) 0

-- these at the offset in the bytes, in place of what stands there
abbrev pub placed : (offset : ℕ) → (written bytes : List ℕ) → List ℕ
placed offset written bytes = take offset bytes ++ (written ++ drop (offset + length written) bytes)

-- these written from the offset on: the bytes grow, by zero bytes, to where they end; where nothing is written they stay (write(2))
abbrev pub written_at : (offset : ℕ) → (written bytes : List ℕ) → List ℕ
written_at offset [] bytes = bytes
written_at offset (byte ∷ more) bytes = placed offset (byte ∷ more) (resized (max (length bytes) (offset + length (byte ∷ more))) bytes)

-- what comes of SETATTR: the attributes, with the size that was given, or no room for it
abbrev pub IsSet : (size : Option ℕ) → Option FileAttr → Type 0
IsSet None None = ⊥
IsSet None (Some attr) = IsNote attr
IsSet (Some size) None = capacity < size
IsSet (Some size) (Some attr) = (size ≤ capacity) × (attr ≡ note size)

-- and its answer
abbrev pub outcome : Option FileAttr → Answer
outcome None = Error ENOSPC
outcome (Some attr) = Attr nanos_per_second attr

-- what comes of a WRITE: all bytes were written, or there is no room for them
abbrev pub Wrote : (offset len : ℕ) → Option ℕ → Type 0
Wrote offset len None = capacity < offset + len
Wrote offset len (Some n) = (offset + len ≤ capacity) × (n ≡ len)

-- and its answer
abbrev pub wrote : Option ℕ → Answer
wrote None = Error ENOSPC
wrote (Some n) = Written n

-- what a call may be answered, whatever the file holds
abbrev pub MayHave : Call → Answer → Type 0
MayHave (Lookup parent name) a =
    MatchBool (is_note parent name)
    ((attr : FileAttr) × IsNote attr × (a ≡ Entry nanos_per_second nanos_per_second 0 attr))
    (a ≡ Error ENOENT)
MayHave (GetAttr ino fh) a = ByNode (node_of ino) (OfNote a) (a ≡ Attr nanos_per_second directory) a
MayHave (SetAttr ino mode uid gid size atime mtime ctime fh crtime chgtime bkuptime flags) a =
    ByNode (node_of ino) ((found : Option FileAttr) × IsSet size found × (a ≡ outcome found)) (a ≡ Error EPERM) a
MayHave (Open ino flags) a = ByNode (node_of ino) (a ≡ Opened 0 0) (a ≡ Error EISDIR) a
MayHave (Read ino fh offset size flags lock_owner) a =
    ByNode (node_of ino) ((bytes : List ℕ) × (length bytes ≤ min size capacity) × (a ≡ Data bytes)) (a ≡ Error EISDIR) a
MayHave (Write ino fh offset written write_flags flags lock_owner) a =
    ByNode (node_of ino) ((found : Option ℕ) × Wrote offset (length written) found × (a ≡ wrote found)) (a ≡ Error EISDIR) a
MayHave (ReadDir ino fh offset size) a = MayRead listed_tree (ReadDir ino fh offset size) a
MayHave c a = default_answer c ≡ a

-- every kernel is accepted, and nothing that a promise sees ever changes
abbrev pub promise : {F : Type 0} → Promise F
promise = record {
  may_init = λ old request before result new after. (result ≡ Ok tt) × (after ≡ before) × (new ≡ old);
  may_answer = λ fs request call a. MayHave call a;
  may_honour = λ fs request target. ⊥;
  may_note = λ fs request call mark. mark ≡ default_mark;
  may_destroy = λ old new. new ≡ old;
  defers = false;
}
