-- The tree that the program serves: a directory with two files in it, and what each call to it gives.
use Rattle.std.specs.Prelude.{◌≡◌, ℕ, ◌==◌, List, [], ◌∷◌, Option, None, Some, Ok, pos, codes, take, drop, length, false, if◌then◌else◌}
use Rattle.std.specs.List.{range_with_len}
use Rattle.std.specs.Str.{bytes_eq}
use Rattle.fuse_wire.specs.ErrorNumbers.{ENOENT}
use Rattle.fuse_wire.specs.Times.{nanos_per_second}
use Rattle.fuse_wire.specs.declared.file_attr.FileAttr.{FileAttr}
use Rattle.fuse_wire.specs.declared.file_attr.FileType.{FileType}
use Rattle.fuse_wire.specs.declared.file_attr.FileType.TheVariants.{Directory, RegularFile}
use Rattle.fuse_request.specs.Call.{Call}
use Rattle.fuse_request.specs.Call.Call.{Lookup, Forget, GetAttr, Read, ReadDir, BatchForget}
use Rattle.fuse_reply.specs.Answer.{Answer}
use Rattle.fuse_reply.specs.Answer.Answer.{Error, Data, Directory as Entries}
use Rattle.fuse_reply.specs.Listing.{DirEntry, fitting}
use Rattle.fuse_dispatch.specs.Defaults.{default_answer}
use Rattle.fuse_dispatch.specs.Found.{found_attributes, found_entry}
use Rattle.fuse_dispatch.specs.Promise.{Promise, MayInit, MayAnswer, MayNote, MayDestroy}
use Rattle.fuse_hello.specs.declared.hello.Hello.{Hello}

-- attributes of a node, whose owner and whose times are 0
abbrev pub attr : (ino : ℕ) → FileType → (perm nlink size blocks : ℕ) → FileAttr
attr ino kind perm nlink size blocks = record {
  ino = record { 0 = ino };
  size = size;
  blocks = blocks;
  atime = record { 0 = pos 0 };
  mtime = record { 0 = pos 0 };
  ctime = record { 0 = pos 0 };
  crtime = record { 0 = pos 0 };
  kind = kind;
  perm = perm;
  nlink = nlink;
  uid = 0;
  gid = 0;
  rdev = 0;
  blksize = 512;
  flags = 0;
}

-- the nodes: the directory 1 of mode 0o755, and in it the files 2 and 3 of mode 0o644
abbrev pub node_attr : ℕ → Option FileAttr
node_attr ino =
    if ino == 1 then Some (attr 1 Directory 493 2 0 0)
    else if ino == 2 then Some (attr 2 RegularFile 420 1 13 1)
    else if ino == 3 then Some (attr 3 RegularFile 420 1 200 1)
    else None

-- the names in the directory
abbrev pub tree_named : List ℕ → Option FileAttr
tree_named name =
    if bytes_eq name (codes "hello.txt") then node_attr 2
    else if bytes_eq name (codes "big") then node_attr 3
    else None

-- the entries of the directory, each with the offset after it
abbrev pub member : (ino offset : ℕ) → FileType → (name : List ℕ) → DirEntry
member ino offset kind name = record { ino = ino; offset = offset; kind = kind; name = name }

abbrev pub members : List DirEntry
members =
    member 1 1 Directory (codes ".") ∷ member 1 2 Directory (codes "..") ∷ member 2 3 RegularFile (codes "hello.txt")
    ∷ member 3 4 RegularFile (codes "big") ∷ []

-- what the files hold: a greeting, and the numbers from 0 to 199
abbrev pub contents : ℕ → Option (List ℕ)
contents ino =
    if ino == 2 then Some (codes "Hello World!\n")
    else if ino == 3 then Some (range_with_len 0 200)
    else None

-- the bytes from the offset on, at most so many
abbrev pub tree_bytes : (offset size : ℕ) → Option (List ℕ) → Answer
tree_bytes offset size None = Error ENOENT
tree_bytes offset size (Some all) = Data (take size (drop offset all))

-- the entries after the first so many
abbrev pub tree_listed : (ino offset size : ℕ) → Answer
tree_listed ino offset size = if ino == 1 then Entries (fitting size 0 (drop offset members)) else Error ENOENT

-- the answer to a call; an entry and attributes hold for a second
abbrev pub tree_answer : Call → Answer
tree_answer (Lookup parent name) = found_entry nanos_per_second (if parent == 1 then tree_named name else None)
tree_answer (GetAttr ino fh) = found_attributes nanos_per_second (node_attr ino)
tree_answer (Read ino fh offset size flags lock_owner) = tree_bytes offset size (contents ino)
tree_answer (ReadDir ino fh offset size) = tree_listed ino offset size
tree_answer c = default_answer c

-- the mark of a forget: how many lookups it gives back, or of how many inodes a batch gives back some
abbrev pub tree_mark : Call → Option ℕ
tree_mark (Forget ino nlookup) = Some nlookup
tree_mark (BatchForget rows) = Some (length rows)
tree_mark c = None

-- the tree accepts each INIT, and leaves what is negotiated as it is
abbrev pub tree_may_init : MayInit Hello
tree_may_init old request before result new after = (result ≡ Ok tt) × (after ≡ before)

-- each call has its one answer, and each forget its one mark
abbrev pub tree_may_answer : MayAnswer Hello
tree_may_answer tree request call answer = tree_answer call ≡ answer

abbrev pub tree_may_note : MayNote Hello
tree_may_note tree request call mark = tree_mark call ≡ Some mark

-- nothing happens to it when the session is over
abbrev pub tree_may_destroy : MayDestroy Hello
tree_may_destroy old new = new ≡ old

-- the promise of the tree
abbrev pub tree_promise : Promise Hello
tree_promise = record {
  may_init = tree_may_init;
  may_answer = tree_may_answer;
  may_honour = λ tree request target. ⊥;
  may_note = tree_may_note;
  may_destroy = tree_may_destroy;
  defers = false;
}
