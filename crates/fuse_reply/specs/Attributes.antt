-- Attributes of a file, as replies carry them (`struct fuse_attr`, `struct fuse_attr_out` and `struct fuse_entry_out` of `fuse.h`).
use Rattle.std.specs.Prelude.{ℕ, ℤ, ◌/◌, ◌%◌, ◌++◌, List, replicate}
use Rattle.std.specs.Int.{w32, w64, to_le_bytes, cast_unsigned}
use Rattle.std.specs.Int.RustNames.{bit_or}
use Rattle.fuse_wire.specs.Times.{nanos_per_second, time_out}
use Rattle.fuse_wire.specs.declared.file_attr.FileAttr.{FileAttr}
use Rattle.fuse_wire.specs.declared.file_attr.FileType.{FileType}
use Rattle.fuse_wire.specs.declared.file_attr.FileType.TheVariants.{NamedPipe, CharDevice, BlockDevice, Directory, RegularFile, Symlink, Socket}

-- the type bits of `st_mode`
abbrev pub kind_bits : FileType → ℕ
kind_bits NamedPipe = 4096
kind_bits CharDevice = 8192
kind_bits Directory = 16384
kind_bits BlockDevice = 24576
kind_bits RegularFile = 32768
kind_bits Symlink = 40960
kind_bits Socket = 49152

-- the kind's bits, and those of the permissions
abbrev pub mode : FileType → (perm : ℕ) → ℕ
mode kind perm = bit_or (kind_bits kind) perm

-- the numbers of 8 bytes: ino8 size8 blocks8
unfoldable pub size_fields : FileAttr → List ℕ
size_fields attr = to_le_bytes w64 attr.ino.0 ++ to_le_bytes w64 attr.size ++ to_le_bytes w64 attr.blocks

-- the seconds of the times: atime8i mtime8i ctime8i
unfoldable pub second_fields : (atime mtime ctime : ℤ) → List ℕ
second_fields atime mtime ctime =
    to_le_bytes w64 (cast_unsigned w64 atime) ++ to_le_bytes w64 (cast_unsigned w64 mtime) ++ to_le_bytes w64 (cast_unsigned w64 ctime)

-- the nanoseconds of the times, and the numbers of 4 bytes: atimensec4 mtimensec4 ctimensec4 mode4 nlink4 uid4 gid4 rdev4 blksize4 _4
unfoldable pub narrow_fields : (atimensec mtimensec ctimensec : ℕ) → FileAttr → List ℕ
narrow_fields atimensec mtimensec ctimensec attr =
    to_le_bytes w32 atimensec ++ to_le_bytes w32 mtimensec ++ to_le_bytes w32 ctimensec
    ++ to_le_bytes w32 (mode attr.kind attr.perm) ++ to_le_bytes w32 attr.nlink ++ to_le_bytes w32 attr.uid
    ++ to_le_bytes w32 attr.gid ++ to_le_bytes w32 attr.rdev ++ to_le_bytes w32 attr.blksize ++ replicate 4 0

-- `struct fuse_attr`: these three, one after the other
unfoldable pub attr_block : FileAttr → List ℕ
attr_block attr =
    size_fields attr
    ++ second_fields (time_out attr.atime.0).0 (time_out attr.mtime.0).0 (time_out attr.ctime.0).0
    ++ narrow_fields (time_out attr.atime.0).1 (time_out attr.mtime.0).1 (time_out attr.ctime.0).1 attr

-- the whole seconds of a span of so many nanoseconds
abbrev pub span_seconds : ℕ → List ℕ
span_seconds span = to_le_bytes w64 (span / nanos_per_second)

-- the nanoseconds above them
abbrev pub span_nanos : ℕ → List ℕ
span_nanos span = to_le_bytes w32 (span % nanos_per_second)

-- nodeid8 generation8 entry_valid8 attr_valid8 entry_valid_nsec4 attr_valid_nsec4
unfoldable pub entry_front : (entry_valid attr_valid generation nodeid : ℕ) → List ℕ
entry_front entry_valid attr_valid generation nodeid =
    to_le_bytes w64 nodeid ++ to_le_bytes w64 generation ++ span_seconds entry_valid ++ span_seconds attr_valid
    ++ span_nanos entry_valid ++ span_nanos attr_valid

-- an entry: the node is the attributes' own
unfoldable pub entry_payload : (entry_valid attr_valid generation : ℕ) → FileAttr → List ℕ
entry_payload entry_valid attr_valid generation attr =
    entry_front entry_valid attr_valid generation attr.ino.0 ++ attr_block attr

-- attr_valid8 attr_valid_nsec4 _4
unfoldable pub attr_front : (valid : ℕ) → List ℕ
attr_front valid = span_seconds valid ++ span_nanos valid ++ replicate 4 0

-- attributes alone
unfoldable pub attr_payload : (valid : ℕ) → FileAttr → List ℕ
attr_payload valid attr = attr_front valid ++ attr_block attr
