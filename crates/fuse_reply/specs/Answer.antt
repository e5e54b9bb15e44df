-- Answers to requests, as plain values.
use Rattle.std.specs.Prelude.{◌≡◌, ℕ, ℤ, ◌+◌, ◌<◌, ◌≤◌, ◌^◌, ◌*◌, List, length, flat_map, slice_index, FitsSigned}
use Rattle.std.specs.Int.{w32, w64, w128}
use Rattle.std.specs.List.{AllByRecursion}
use Rattle.fuse_wire.specs.declared.file_attr.FileAttr.{FileAttr}
use Rattle.fuse_reply.specs.Sizes.{max_payload, inline_size, ioctl_out_size}
use Rattle.fuse_wire.specs.Times.{nanos_per_second}
use Rattle.fuse_reply.specs.Listing.{DirEntry, PlusEntry, dirent, direntplus, listing, plus_listing}

pub data Answer : Type 0 where
  -- an error's number
  Error : (errno : ℕ) → Answer
  -- a status alone
  Empty : Answer
  -- bytes
  Data : (bytes : List ℕ) → Answer
  -- what a name leads to: how many nanoseconds the name and the attributes hold, the generation of the inode, and its attributes
  Entry : (entry_valid attr_valid generation : ℕ) (attr : FileAttr) → Answer
  -- attributes, and how many nanoseconds they hold
  Attr : (valid : ℕ) (attr : FileAttr) → Answer
  -- the number of an open file, and the flags `FOPEN_`
  Open : (fh open_flags : ℕ) → Answer
  -- how many bytes were written
  Write : (size : ℕ) → Answer
  -- how full a filesystem is: `struct fuse_kstatfs`
  Statfs : (blocks bfree bavail files ffree bsize namelen frsize : ℕ) → Answer
  -- a new file: an entry that holds, as its attributes do, for so many nanoseconds, and the file opened
  Create : (valid generation : ℕ) (attr : FileAttr) (fh open_flags : ℕ) → Answer
  -- a lock of the bytes from the start to the end, of a type, and the process that holds it
  Lock : (start end : ℕ) (typ : ℤ) (pid : ℕ) → Answer
  -- a block of a device
  Bmap : (block : ℕ) → Answer
  -- a place in a file
  Lseek : (offset : ℤ) → Answer
  -- the result of an ioctl, and the bytes that it gives back
  Ioctl : (result : ℤ) (bytes : List ℕ) → Answer
  -- what a file is ready for
  Poll : (revents : ℕ) → Answer
  -- how many bytes an extended attribute has, or the names of all
  XattrSize : (size : ℕ) → Answer
  -- entries of a directory
  Directory : (entries : List DirEntry) → Answer
  -- entries of a directory, each with what a lookup answers
  DirectoryPlus : (entries : List PlusEntry) → Answer

-- the numbers of attributes, each in the range of its type
pub record IsAttr (attr : FileAttr) : Type 0 where
  pub ino : attr.ino.0 < 2 ^ 64
  pub size : attr.size < 2 ^ 64
  pub blocks : attr.blocks < 2 ^ 64
  pub atime : FitsSigned w128 attr.atime.0
  pub mtime : FitsSigned w128 attr.mtime.0
  pub ctime : FitsSigned w128 attr.ctime.0
  pub crtime : FitsSigned w128 attr.crtime.0
  pub perm : attr.perm < 2 ^ 16
  pub nlink : attr.nlink < 2 ^ 32
  pub uid : attr.uid < 2 ^ 32
  pub gid : attr.gid < 2 ^ 32
  pub rdev : attr.rdev < 2 ^ 32
  pub blksize : attr.blksize < 2 ^ 32
  pub flags : attr.flags < 2 ^ 32

-- a span of nanoseconds whose seconds are below 2^64
abbrev pub IsSpan : ℕ → Type 0
IsSpan span = span < 2 ^ 64 * nanos_per_second

-- numbers that are bytes
abbrev pub AreBytes : List ℕ → Type 0
AreBytes bytes = (i : ℕ) → slice_index bytes i < 256

-- bytes, as many as a frame can carry
abbrev pub IsData : List ℕ → Type 0
IsData bytes = AreBytes bytes × (length bytes ≤ max_payload)

-- a name whose length has 4 bytes
abbrev pub IsEntryName : List ℕ → Type 0
IsEntryName name = AreBytes name × (length name < 2 ^ 32)

-- the numbers of an entry, each in the range of its field
pub record IsDirEntry (e : DirEntry) : Type 0 where
  pub ino : e.ino < 2 ^ 64
  pub offset : e.offset < 2 ^ 64
  pub name : IsEntryName e.name

-- and those of an entry with what a lookup answers
pub record IsPlusEntry (e : PlusEntry) : Type 0 where
  pub valid : IsSpan e.valid
  pub generation : e.generation < 2 ^ 64
  pub attr : IsAttr e.attr
  pub offset : e.offset < 2 ^ 64
  pub name : IsEntryName e.name

-- bytes that are entries in range, one after the other, as they are spelled
pub record AreEntries {E : Type 0} (spelling : E → List ℕ) (InRange : E → Type 0) (bytes : List ℕ) : Type 0 where
  pub entries : List E
  pub in_range : AllByRecursion InRange entries
  pub are : bytes ≡ flat_map spelling entries

abbrev pub IsListing : List ℕ → Type 0
IsListing = AreEntries dirent IsDirEntry

abbrev pub IsPlusListing : List ℕ → Type 0
IsPlusListing = AreEntries direntplus IsPlusEntry

-- each number in the range of its type, and a payload that a frame can carry
abbrev pub IsAnswer : Answer → Type 0
IsAnswer (Error errno) = (0 < errno) × (errno < 2 ^ 31)
IsAnswer Empty = Unit {0}
IsAnswer (Data bytes) = IsData bytes
IsAnswer (Entry entry_valid attr_valid generation attr) = IsSpan entry_valid × IsSpan attr_valid × (generation < 2 ^ 64) × IsAttr attr
IsAnswer (Attr valid attr) = IsSpan valid × IsAttr attr
IsAnswer (Open fh open_flags) = (fh < 2 ^ 64) × (open_flags < 2 ^ 32)
IsAnswer (Write size) = size < 2 ^ 32
IsAnswer (Statfs blocks bfree bavail files ffree bsize namelen frsize) =
    (blocks < 2 ^ 64) × (bfree < 2 ^ 64) × (bavail < 2 ^ 64) × (files < 2 ^ 64) × (ffree < 2 ^ 64)
    × (bsize < 2 ^ 32) × (namelen < 2 ^ 32) × (frsize < 2 ^ 32)
IsAnswer (Create valid generation attr fh open_flags) =
    IsSpan valid × (generation < 2 ^ 64) × IsAttr attr × (fh < 2 ^ 64) × (open_flags < 2 ^ 32)
IsAnswer (Lock start end typ pid) = (start < 2 ^ 64) × (end < 2 ^ 64) × FitsSigned w32 typ × (pid < 2 ^ 32)
IsAnswer (Bmap block) = block < 2 ^ 64
IsAnswer (Lseek offset) = FitsSigned w64 offset
IsAnswer (Ioctl result bytes) = FitsSigned w32 result × AreBytes bytes × (ioctl_out_size + length bytes ≤ max_payload)
IsAnswer (Poll revents) = revents < 2 ^ 32
IsAnswer (XattrSize size) = size < 2 ^ 32
IsAnswer (Directory entries) = AllByRecursion IsDirEntry entries × (length (listing entries) ≤ max_payload)
IsAnswer (DirectoryPlus entries) = AllByRecursion IsPlusEntry entries × (length (plus_listing entries) ≤ max_payload)

-- an answer whose bytes are copied into its frame, and make the payload too long to be held without memory
abbrev pub IsLong : Answer → Type 0
IsLong (Data bytes) = inline_size < length bytes
IsLong (Ioctl result bytes) = inline_size < ioctl_out_size + length bytes
IsLong a = ⊥
