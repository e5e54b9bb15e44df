-- Which answers the reply of a call can give.
use Rattle.std.specs.Prelude.{ℕ, ◌≤◌, length}
use Rattle.fuse_request.specs.Call.{Call}
use Rattle.fuse_request.specs.Call.Call.{Lookup, Forget, GetAttr, SetAttr, ReadLink, SymLink, MkNod, MkDir, Unlink, RmDir, Rename, Link, Open, Read}
use Rattle.fuse_request.specs.Call.Call.{Write, StatFs, Release, FSync, SetXAttr, GetXAttr, ListXAttr, RemoveXAttr, Flush, OpenDir, ReadDir}
use Rattle.fuse_request.specs.Call.Call.{ReleaseDir, FSyncDir, GetLk, SetLk, Access, Create, Interrupt, BMap, IoCtl, Poll, BatchForget, FAllocate}
use Rattle.fuse_request.specs.Call.Call.{ReadDirPlus, Lseek, CopyFileRange}
use Rattle.fuse_reply.specs.Answer.{Answer}
use Rattle.fuse_reply.specs.Listing.{listing, plus_listing}

-- what an answer carries: one line for each, and all other answers carry something else
abbrev pub CarriesNothing : Answer → Type 0
CarriesNothing Answer.Empty = Unit {0}
CarriesNothing a = ⊥

abbrev pub CarriesData : Answer → Type 0
CarriesData (Answer.Data bytes) = Unit {0}
CarriesData a = ⊥

abbrev pub CarriesEntry : Answer → Type 0
CarriesEntry (Answer.Entry entry_valid attr_valid generation attr) = Unit {0}
CarriesEntry a = ⊥

abbrev pub CarriesAttr : Answer → Type 0
CarriesAttr (Answer.Attr valid attr) = Unit {0}
CarriesAttr a = ⊥

abbrev pub CarriesOpen : Answer → Type 0
CarriesOpen (Answer.Open fh open_flags) = Unit {0}
CarriesOpen a = ⊥

abbrev pub CarriesWrite : Answer → Type 0
CarriesWrite (Answer.Write size) = Unit {0}
CarriesWrite a = ⊥

abbrev pub CarriesStatfs : Answer → Type 0
CarriesStatfs (Answer.Statfs blocks bfree bavail files ffree bsize namelen frsize) = Unit {0}
CarriesStatfs a = ⊥

abbrev pub CarriesCreate : Answer → Type 0
CarriesCreate (Answer.Create valid generation attr fh open_flags) = Unit {0}
CarriesCreate a = ⊥

abbrev pub CarriesLock : Answer → Type 0
CarriesLock (Answer.Lock start end typ pid) = Unit {0}
CarriesLock a = ⊥

abbrev pub CarriesBmap : Answer → Type 0
CarriesBmap (Answer.Bmap block) = Unit {0}
CarriesBmap a = ⊥

abbrev pub CarriesLseek : Answer → Type 0
CarriesLseek (Answer.Lseek offset) = Unit {0}
CarriesLseek a = ⊥

abbrev pub CarriesIoctl : Answer → Type 0
CarriesIoctl (Answer.Ioctl result bytes) = Unit {0}
CarriesIoctl a = ⊥

abbrev pub CarriesPoll : Answer → Type 0
CarriesPoll (Answer.Poll revents) = Unit {0}
CarriesPoll a = ⊥

-- an extended attribute, or its size
abbrev pub CarriesXattr : Answer → Type 0
CarriesXattr (Answer.XattrSize size) = Unit {0}
CarriesXattr (Answer.Data bytes) = Unit {0}
CarriesXattr a = ⊥

-- entries, no more than the size that was asked for
abbrev pub CarriesDirectory : (size : ℕ) → Answer → Type 0
CarriesDirectory size (Answer.Directory entries) = length (listing entries) ≤ size
CarriesDirectory size a = ⊥

abbrev pub CarriesDirectoryPlus : (size : ℕ) → Answer → Type 0
CarriesDirectoryPlus size (Answer.DirectoryPlus entries) = length (plus_listing entries) ≤ size
CarriesDirectoryPlus size a = ⊥

-- what a reply of the call carries, where it is no error; a forget has no reply, and an interrupt that is honoured has none
abbrev pub Carries : Call → Answer → Type 0
Carries (Lookup parent name) = CarriesEntry
Carries (Forget ino nlookup) = λ a. ⊥
Carries (GetAttr ino fh) = CarriesAttr
Carries (SetAttr ino mode uid gid size atime mtime ctime fh crtime chgtime bkuptime flags) = CarriesAttr
Carries (ReadLink ino) = CarriesData
Carries (SymLink parent link_name target) = CarriesEntry
Carries (MkNod parent name mode umask rdev) = CarriesEntry
Carries (MkDir parent name mode umask) = CarriesEntry
Carries (Unlink parent name) = CarriesNothing
Carries (RmDir parent name) = CarriesNothing
Carries (Rename parent name newparent newname flags) = CarriesNothing
Carries (Link ino newparent newname) = CarriesEntry
Carries (Open ino flags) = CarriesOpen
Carries (Read ino fh offset size flags lock_owner) = CarriesData
Carries (Write ino fh offset written write_flags flags lock_owner) = CarriesWrite
Carries (StatFs ino) = CarriesStatfs
Carries (Release ino fh flags lock_owner flush) = CarriesNothing
Carries (FSync ino fh datasync) = CarriesNothing
Carries (SetXAttr ino name value flags position setxattr_flags) = CarriesNothing
Carries (GetXAttr ino name size) = CarriesXattr
Carries (ListXAttr ino size) = CarriesXattr
Carries (RemoveXAttr ino name) = CarriesNothing
Carries (Flush ino fh lock_owner) = CarriesNothing
Carries (OpenDir ino flags) = CarriesOpen
Carries (ReadDir ino fh offset size) = CarriesDirectory size
Carries (ReleaseDir ino fh flags) = CarriesNothing
Carries (FSyncDir ino fh datasync) = CarriesNothing
Carries (GetLk ino fh lock_owner start end typ pid) = CarriesLock
Carries (SetLk ino fh lock_owner start end typ pid sleep) = CarriesNothing
Carries (Access ino mask) = CarriesNothing
Carries (Create parent name mode umask flags) = CarriesCreate
Carries (Interrupt target) = λ a. ⊥
Carries (BMap ino blocksize block) = CarriesBmap
Carries (IoCtl ino fh flags cmd in_bytes out_size) = CarriesIoctl
Carries (Poll ino fh kh events flags) = CarriesPoll
Carries (BatchForget rows) = λ a. ⊥
Carries (FAllocate ino fh offset len mode) = CarriesNothing
Carries (ReadDirPlus ino fh offset size) = CarriesDirectoryPlus size
Carries (Lseek ino fh offset whence) = CarriesLseek
Carries (CopyFileRange ino_in fh_in offset_in ino_out fh_out offset_out len flags) = CarriesWrite

-- an answer that a reply of the call can give: an error, or what it carries
abbrev pub IsOfKind : Call → Answer → Type 0
IsOfKind c (Answer.Error errno) = Unit {0}
IsOfKind c a = Carries c a
