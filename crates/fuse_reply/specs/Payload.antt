-- What answers carry: the structs of `fuse.h` whose names end in `_out`.
use Rattle.std.specs.Prelude.{ℕ, ℤ, ◌++◌, List, [], replicate}
use Rattle.std.specs.Int.{w32, w64, to_le_bytes, cast_unsigned}
use Rattle.fuse_wire.specs.declared.file_attr.FileAttr.{FileAttr}
use Rattle.fuse_reply.specs.Answer.{Answer}
use Rattle.fuse_reply.specs.Answer.Answer.{Error, Empty, Data, Entry, Attr, Open, Create, Write, XattrSize, Statfs, Lock, Bmap, Lseek, Ioctl, Poll}
use Rattle.fuse_reply.specs.Answer.Answer.{Directory, DirectoryPlus}
use Rattle.fuse_reply.specs.Attributes.{entry_payload, attr_payload}
use Rattle.fuse_reply.specs.Listing.{listing, plus_listing}

-- `struct fuse_open_out`: fh8 open_flags4 backing_id4, which is 0
unfoldable pub open_payload : (fh open_flags : ℕ) → List ℕ
open_payload fh open_flags = to_le_bytes w64 fh ++ to_le_bytes w32 open_flags ++ replicate 4 0

-- `struct fuse_entry_out`, where name and attributes hold alike, and `struct fuse_open_out`
unfoldable pub create_payload : (valid generation : ℕ) → FileAttr → (fh open_flags : ℕ) → List ℕ
create_payload valid generation attr fh open_flags = entry_payload valid valid generation attr ++ open_payload fh open_flags

-- a number of 4 bytes, and 4 bytes without a use: `struct fuse_write_out`, `struct fuse_getxattr_out`, `struct fuse_poll_out`
unfoldable pub word_payload : ℕ → List ℕ
word_payload n = to_le_bytes w32 n ++ replicate 4 0

-- blocks8 bfree8 bavail8 files8 ffree8
unfoldable pub statfs_counts : (blocks bfree bavail files ffree : ℕ) → List ℕ
statfs_counts blocks bfree bavail files ffree =
    to_le_bytes w64 blocks ++ to_le_bytes w64 bfree ++ to_le_bytes w64 bavail ++ to_le_bytes w64 files ++ to_le_bytes w64 ffree

-- bsize4 namelen4 frsize4 _4 _24
unfoldable pub statfs_sizes : (bsize namelen frsize : ℕ) → List ℕ
statfs_sizes bsize namelen frsize = to_le_bytes w32 bsize ++ to_le_bytes w32 namelen ++ to_le_bytes w32 frsize ++ replicate 28 0

-- `struct fuse_statfs_out`, which is one `struct fuse_kstatfs`: the one part after the other
unfoldable pub statfs_payload : (blocks bfree bavail files ffree bsize namelen frsize : ℕ) → List ℕ
statfs_payload blocks bfree bavail files ffree bsize namelen frsize =
    statfs_counts blocks bfree bavail files ffree ++ statfs_sizes bsize namelen frsize

-- `struct fuse_lk_out`, which is one `struct fuse_file_lock`: start8 end8 typ4i pid4
unfoldable pub lock_payload : (start end : ℕ) (typ : ℤ) (pid : ℕ) → List ℕ
lock_payload start end typ pid =
    to_le_bytes w64 start ++ to_le_bytes w64 end ++ to_le_bytes w32 (cast_unsigned w32 typ) ++ to_le_bytes w32 pid

-- `struct fuse_ioctl_out`: result4i flags4 in_iovs4 out_iovs4. The counts are 1 each, also where nothing is given back.
unfoldable pub ioctl_front : (result : ℤ) → List ℕ
ioctl_front result = to_le_bytes w32 (cast_unsigned w32 result) ++ replicate 4 0 ++ to_le_bytes w32 1 ++ to_le_bytes w32 1

-- the payload of an answer; for a block it is `struct fuse_bmap_out`, for a place in a file `struct fuse_lseek_out`
abbrev pub payload : Answer → List ℕ
payload (Error errno) = []
payload Empty = []
payload (Data bytes) = bytes
payload (Entry entry_valid attr_valid generation attr) = entry_payload entry_valid attr_valid generation attr
payload (Attr valid attr) = attr_payload valid attr
payload (Open fh open_flags) = open_payload fh open_flags
payload (Create valid generation attr fh open_flags) = create_payload valid generation attr fh open_flags
payload (Write size) = word_payload size
payload (XattrSize size) = word_payload size
payload (Statfs blocks bfree bavail files ffree bsize namelen frsize) = statfs_payload blocks bfree bavail files ffree bsize namelen frsize
payload (Lock start end typ pid) = lock_payload start end typ pid
payload (Bmap block) = to_le_bytes w64 block
payload (Lseek offset) = to_le_bytes w64 (cast_unsigned w64 offset)
payload (Ioctl result bytes) = ioctl_front result ++ bytes
payload (Poll revents) = word_payload revents
payload (Directory entries) = listing entries
payload (DirectoryPlus entries) = plus_listing entries
