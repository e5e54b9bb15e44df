-- How long the payloads of answers are.
use Rattle.std.proofs.Common.{◌≡◌, ◌≤◌, ◌+◌, ℕ, ℤ, List, length, length-append, refl, arith}
use Rattle.fuse_wire.specs.declared.file_attr.FileAttr.{FileAttr}
use Rattle.fuse_reply.specs.Sizes.{max_payload, ioctl_out_size}
use Rattle.fuse_reply.specs.Answer.{Answer, IsAnswer}
use Rattle.fuse_reply.specs.Answer.Answer.{Error, Empty, Data, Entry, Attr, Open, Create, Write, XattrSize, Statfs, Lock, Bmap, Lseek, Ioctl, Poll}
use Rattle.fuse_reply.specs.Answer.Answer.{Directory, DirectoryPlus}
use Rattle.fuse_reply.specs.Attributes.{size_fields, second_fields, narrow_fields, attr_block, entry_front, entry_payload, attr_front, attr_payload}
use Rattle.fuse_reply.specs.Payload.{payload, open_payload, create_payload, word_payload, statfs_counts, statfs_sizes, statfs_payload}
use Rattle.fuse_reply.specs.Payload.{lock_payload, ioctl_front}

-- an entry has 128 bytes
pub length-entry_payload : (entry_valid attr_valid generation : ℕ) (attr : FileAttr) → length (entry_payload entry_valid attr_valid generation attr) ≡ 128
unfolding entry_payload entry_front attr_block size_fields second_fields narrow_fields
length-entry_payload entry_valid attr_valid generation attr = refl

-- attributes alone have 104
pub length-attr_payload : (valid : ℕ) (attr : FileAttr) → length (attr_payload valid attr) ≡ 104
unfolding attr_payload attr_front attr_block size_fields second_fields narrow_fields
length-attr_payload valid attr = refl

-- an open file has 16
pub length-open_payload : (fh open_flags : ℕ) → length (open_payload fh open_flags) ≡ 16
unfolding open_payload
length-open_payload fh open_flags = refl

-- a new file has both
pub length-create_payload : (valid generation : ℕ) (attr : FileAttr) (fh open_flags : ℕ) → length (create_payload valid generation attr fh open_flags) ≡ 144
unfolding create_payload
length-create_payload valid generation attr fh open_flags =
    omega (
      arith,
      length-append (entry_payload valid valid generation attr) (open_payload fh open_flags),
      length-entry_payload valid valid generation attr,
      length-open_payload fh open_flags,
    )

-- a number has 8
pub length-word_payload : (n : ℕ) → length (word_payload n) ≡ 8
unfolding word_payload
length-word_payload n = refl

-- the fill of a filesystem has 80
pub length-statfs_payload : (blocks bfree bavail files ffree bsize namelen frsize : ℕ)
    → length (statfs_payload blocks bfree bavail files ffree bsize namelen frsize) ≡ 80
unfolding statfs_payload statfs_counts statfs_sizes
length-statfs_payload blocks bfree bavail files ffree bsize namelen frsize = refl

-- a lock has 24
pub length-lock_payload : (start end : ℕ) (typ : ℤ) (pid : ℕ) → length (lock_payload start end typ pid) ≡ 24
unfolding lock_payload
length-lock_payload start end typ pid = refl

-- an ioctl's result has 16
pub length-ioctl_front : (result : ℤ) → length (ioctl_front result) ≡ ioctl_out_size
unfolding ioctl_front
length-ioctl_front result = refl

-- with the bytes that the ioctl gives back
pub length-ioctl : (result : ℤ) (bytes : List ℕ) → length (payload (Ioctl result bytes)) ≡ ioctl_out_size + length bytes
length-ioctl result bytes = omega (arith, length-append (ioctl_front result) bytes, length-ioctl_front result)

-- a frame can carry the payload of each answer
pub payload-fits : (a : Answer) → IsAnswer a → length (payload a) ≤ max_payload
payload-fits (Error errno) valid = omega arith
payload-fits Empty valid = omega arith
payload-fits (Data bytes) valid = valid.1
payload-fits (Entry entry_valid attr_valid generation attr) valid = omega (arith, length-entry_payload entry_valid attr_valid generation attr)
payload-fits (Attr valid attr) fits = omega (arith, length-attr_payload valid attr)
payload-fits (Open fh open_flags) valid = omega (arith, length-open_payload fh open_flags)
payload-fits (Create valid generation attr fh open_flags) fits = omega (arith, length-create_payload valid generation attr fh open_flags)
payload-fits (Write size) valid = omega (arith, length-word_payload size)
payload-fits (XattrSize size) valid = omega (arith, length-word_payload size)
payload-fits (Statfs blocks bfree bavail files ffree bsize namelen frsize) valid =
    omega (arith, length-statfs_payload blocks bfree bavail files ffree bsize namelen frsize)
payload-fits (Lock start end typ pid) valid = omega (arith, length-lock_payload start end typ pid)
payload-fits (Bmap block) valid = omega arith
payload-fits (Lseek offset) valid = omega arith
payload-fits (Ioctl result bytes) valid = omega (arith, length-ioctl result bytes, valid.2)
payload-fits (Poll revents) valid = omega (arith, length-word_payload revents)
payload-fits (Directory entries) valid = valid.1
payload-fits (DirectoryPlus entries) valid = valid.1
