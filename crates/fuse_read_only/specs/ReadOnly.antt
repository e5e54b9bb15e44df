-- What each call to a tree that is only looked at is answered, and the promise of that.
use Rattle.std.specs.Prelude.{◌≡◌, ◌⊎◌, ◌<◌, ◌-◌, ◌^◌, ℕ, List, Bool, Option, None, Some, Ok, take, drop, length, min, false, true}
use Rattle.fuse_wire.specs.ErrorNumbers.{EINVAL, ENOENT, ENOMEM, EROFS}
use Rattle.fuse_wire.specs.OpenMode.{acc_mode}
use Rattle.fuse_wire.specs.declared.file_attr.FileAttr.{FileAttr}
use Rattle.fuse_wire.specs.declared.file_attr.FileType.{FileType}
use Rattle.fuse_wire.specs.declared.file_attr.FileType.TheVariants.{Symlink}
use Rattle.fuse_wire.specs.declared.open_flags.OpenAccMode.{OpenAccMode}
use Rattle.fuse_wire.specs.declared.open_flags.OpenAccMode.TheVariants.{O_RDONLY, O_WRONLY, O_RDWR}
use Rattle.fuse_request.specs.Call.{Call}
use Rattle.fuse_request.specs.Call.Call.{Lookup, Forget, GetAttr, SetAttr, ReadLink, SymLink, MkNod, MkDir, Unlink, RmDir, Rename, Link, Open}
use Rattle.fuse_request.specs.Call.Call.{Read, Write, SetXAttr, RemoveXAttr, ReadDir, Create, BatchForget, FAllocate, CopyFileRange}
use Rattle.fuse_reply.specs.Answer.{Answer}
use Rattle.fuse_reply.specs.Answer.Answer.{Error, Data, Open as Opened, Directory}
use Rattle.fuse_reply.specs.Listing.{DirEntry, fitting, listing}
use Rattle.fuse_reply.specs.Sizes.{inline_size, max_payload}
use Rattle.fuse_dispatch.specs.Defaults.{default_answer}
use Rattle.fuse_dispatch.specs.Found.{found_attributes, found_entry}
use Rattle.fuse_dispatch.specs.Promise.{Promise}
use Rattle.fuse_read_only.specs.Tree.{Tree, with_offsets}

-- a file is open for reading alone, under the number 0 and with no flags
abbrev pub opened : OpenAccMode → Answer
opened O_RDONLY = Opened 0 0
opened O_WRONLY = Error EROFS
opened O_RDWR = Error EROFS

-- the bytes from the offset on, at most so many, and no more than a frame can carry
abbrev pub bytes : (offset size : ℕ) → Option (List ℕ) → Answer
bytes offset size None = Error ENOENT
bytes offset size (Some all) = Data (take (min size max_payload) (drop offset all))

abbrev pub is_link : FileType → Bool
is_link Symlink = true
is_link kind = false

-- what a symbolic link leads to is its contents, as much of them as a READ can ask for; a node of another kind is no link
abbrev pub target : (is_link : Bool) → Option (List ℕ) → Answer
target true path = bytes 0 (2 ^ 32 - 1) path
target false path = Error EINVAL

abbrev pub leads_to : Option FileAttr → Option (List ℕ) → Answer
leads_to None path = Error ENOENT
leads_to (Some found) path = target (is_link found.kind) path

-- the entries of a node that there is
abbrev pub listed : List DirEntry → Option FileAttr → Answer
listed entries None = Error ENOENT
listed entries (Some found) = Directory entries

-- those from the place `offset` on that fit
abbrev pub listing_of : Tree → (ino offset size : ℕ) → List DirEntry
listing_of tree ino offset size = fitting size 0 (with_offsets offset (drop offset (tree.entries ino)))

-- the answer to a call
abbrev pub answer : Tree → Call → Answer
answer tree (Lookup parent name) = found_entry tree.ttl (tree.names parent name)
answer tree (GetAttr ino fh) = found_attributes tree.ttl (tree.attributes ino)
answer tree (ReadLink ino) = leads_to (tree.attributes ino) (tree.contents ino)
answer tree (Open ino flags) = opened (acc_mode flags)
answer tree (Read ino fh offset size flags lock_owner) = bytes offset size (tree.contents ino)
answer tree (ReadDir ino fh offset size) = listed (listing_of tree ino offset size) (tree.attributes ino)
answer tree (SetAttr ino mode uid gid size atime mtime ctime fh crtime chgtime bkuptime flags) = Error EROFS
answer tree (MkNod parent name mode umask rdev) = Error EROFS
answer tree (MkDir parent name mode umask) = Error EROFS
answer tree (SymLink parent link_name target) = Error EROFS
answer tree (Link ino newparent newname) = Error EROFS
answer tree (Unlink parent name) = Error EROFS
answer tree (RmDir parent name) = Error EROFS
answer tree (Rename parent name newparent newname flags) = Error EROFS
answer tree (Create parent name mode umask flags) = Error EROFS
answer tree (Write ino fh offset written write_flags flags lock_owner) = Error EROFS
answer tree (SetXAttr ino name value flags position setxattr_flags) = Error EROFS
answer tree (RemoveXAttr ino name) = Error EROFS
answer tree (FAllocate ino fh offset len mode) = Error EROFS
answer tree (CopyFileRange ino_in fh_in offset_in ino_out fh_out offset_out len flags) = Error EROFS
answer tree c = default_answer c

-- an answer of entries that are too many bytes to be held without memory
abbrev pub IsLongListing : Answer → Type 0
IsLongListing (Directory entries) = inline_size < length (listing entries)
IsLongListing a = ⊥

-- a call has that answer; but a READDIR whose answer is so long may have ENOMEM, where no memory is to be had for its entries
abbrev pub MayHave : Tree → Call → Answer → Type 0
MayHave tree (ReadDir ino fh offset size) a =
    (answer tree (ReadDir ino fh offset size) ≡ a) ⊎ (IsLongListing (answer tree (ReadDir ino fh offset size)) × (a ≡ Error ENOMEM))
MayHave tree c a = answer tree c ≡ a

-- the mark of a forget: how many lookups it gives back; that of a batch: how many nodes it names
abbrev pub forget_mark : Call → Option ℕ
forget_mark (Forget ino nlookup) = Some nlookup
forget_mark (BatchForget rows) = Some (length rows)
forget_mark c = None

-- every kernel is accepted, with what is negotiated left as it is; nothing happens when the session is over
abbrev pub promise : {F : Type 0} → (F → Tree) → Promise F
promise tree = record {
  may_init = λ old request before result new after. (result ≡ Ok tt) × (after ≡ before) × (new ≡ old);
  may_answer = λ fs request call a. MayHave (tree fs) call a;
  may_honour = λ fs request target. ⊥;
  may_note = λ fs request call m. forget_mark call ≡ Some m;
  may_destroy = λ old new. new ≡ old;
  defers = false;
}
