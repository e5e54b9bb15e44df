-- For whoever writes a reply: that the frame of an answer's status and payload is a reply.
use Rattle.std.proofs.Common.{◌≡◌, ◌<◌, ◌≤◌, ◌^◌, ◌++◌, ◌∙◌, ap, subst, length, ℕ, ℤ, List, [], pos, neg_ℤ}
use Rattle.std.specs.Int.{w64, to_le_bytes, cast_unsigned}
use Rattle.fuse_wire.specs.declared.file_attr.FileAttr.{FileAttr}
use Rattle.fuse_reply.specs.Sizes.{max_payload}
use Rattle.fuse_reply.specs.Answer.{Answer, IsAnswer, IsListing, IsPlusListing}
use Rattle.fuse_reply.specs.Answer.Answer.{Error, Empty, Data, Entry, Attr, Open, Create, Write, XattrSize, Statfs, Lock, Bmap, Lseek, Ioctl, Poll}
use Rattle.fuse_reply.specs.Answer.Answer.{Directory, DirectoryPlus}
use Rattle.fuse_reply.specs.Attributes.{entry_payload, attr_payload}
use Rattle.fuse_reply.specs.Payload.{open_payload, create_payload, word_payload, statfs_counts, statfs_sizes, statfs_payload, lock_payload, ioctl_front}
use Rattle.fuse_reply.specs.Frame.{frame, reply, IsReply}

-- by any answer
pub answer_is_reply : (f : List ℕ) (id : ℕ) (a : Answer) → f ≡ reply id a → id < 2 ^ 64 → IsAnswer a → IsReply f
answer_is_reply f id a same id_in_range in_range =
    record { id = id; answer = a; id_in_range = id_in_range; answer_in_range = in_range; is_reply = same }

-- by an error
pub error_is_reply : (f : List ℕ) (id errno : ℕ) → f ≡ frame id (neg_ℤ (pos errno)) [] → id < 2 ^ 64 → IsAnswer (Error errno) → IsReply f
error_is_reply f id errno = answer_is_reply f id (Error errno)

-- by a status alone
pub empty_is_reply : (f : List ℕ) (id : ℕ) → f ≡ frame id (pos 0) [] → id < 2 ^ 64 → IsReply f
empty_is_reply f id same id_in_range = answer_is_reply f id Empty same id_in_range tt

-- by bytes
pub data_is_reply : (f : List ℕ) (id : ℕ) (bytes : List ℕ) → f ≡ frame id (pos 0) bytes → id < 2 ^ 64 → IsAnswer (Data bytes) → IsReply f
data_is_reply f id bytes = answer_is_reply f id (Data bytes)

-- by an entry
pub entry_is_reply : (f : List ℕ) (id entry_valid attr_valid generation : ℕ) (attr : FileAttr)
    → f ≡ frame id (pos 0) (entry_payload entry_valid attr_valid generation attr) → id < 2 ^ 64
    → IsAnswer (Entry entry_valid attr_valid generation attr) → IsReply f
entry_is_reply f id entry_valid attr_valid generation attr = answer_is_reply f id (Entry entry_valid attr_valid generation attr)

-- by attributes
pub attr_is_reply : (f : List ℕ) (id valid : ℕ) (attr : FileAttr)
    → f ≡ frame id (pos 0) (attr_payload valid attr) → id < 2 ^ 64 → IsAnswer (Attr valid attr) → IsReply f
attr_is_reply f id valid attr = answer_is_reply f id (Attr valid attr)

-- by an open file
pub open_is_reply : (f : List ℕ) (id fh open_flags : ℕ)
    → f ≡ frame id (pos 0) (open_payload fh open_flags) → id < 2 ^ 64 → IsAnswer (Open fh open_flags) → IsReply f
open_is_reply f id fh open_flags = answer_is_reply f id (Open fh open_flags)

-- by a new file
pub create_is_reply : (f : List ℕ) (id valid generation : ℕ) (attr : FileAttr) (fh open_flags : ℕ)
    → f ≡ frame id (pos 0) (entry_payload valid valid generation attr ++ open_payload fh open_flags) → id < 2 ^ 64
    → IsAnswer (Create valid generation attr fh open_flags) → IsReply f
unfolding create_payload
create_is_reply f id valid generation attr fh open_flags = answer_is_reply f id (Create valid generation attr fh open_flags)

-- by how many bytes were written
pub write_is_reply : (f : List ℕ) (id size : ℕ) → f ≡ frame id (pos 0) (word_payload size) → id < 2 ^ 64 → IsAnswer (Write size) → IsReply f
write_is_reply f id size = answer_is_reply f id (Write size)

-- by how many bytes an attribute has
pub xattr_size_is_reply : (f : List ℕ) (id size : ℕ)
    → f ≡ frame id (pos 0) (word_payload size) → id < 2 ^ 64 → IsAnswer (XattrSize size) → IsReply f
xattr_size_is_reply f id size = answer_is_reply f id (XattrSize size)

-- by a filesystem's fill
pub statfs_is_reply : (f : List ℕ) (id blocks bfree bavail files ffree bsize namelen frsize : ℕ)
    → f ≡ frame id (pos 0) (statfs_counts blocks bfree bavail files ffree ++ statfs_sizes bsize namelen frsize) → id < 2 ^ 64
    → IsAnswer (Statfs blocks bfree bavail files ffree bsize namelen frsize) → IsReply f
unfolding statfs_payload
statfs_is_reply f id blocks bfree bavail files ffree bsize namelen frsize =
    answer_is_reply f id (Statfs blocks bfree bavail files ffree bsize namelen frsize)

-- by a lock
pub lock_is_reply : (f : List ℕ) (id start end : ℕ) (typ : ℤ) (pid : ℕ)
    → f ≡ frame id (pos 0) (lock_payload start end typ pid) → id < 2 ^ 64 → IsAnswer (Lock start end typ pid) → IsReply f
lock_is_reply f id start end typ pid = answer_is_reply f id (Lock start end typ pid)

-- by a block
pub bmap_is_reply : (f : List ℕ) (id block : ℕ)
    → f ≡ frame id (pos 0) (to_le_bytes w64 block) → id < 2 ^ 64 → IsAnswer (Bmap block) → IsReply f
bmap_is_reply f id block = answer_is_reply f id (Bmap block)

-- by a place in a file
pub lseek_is_reply : (f : List ℕ) (id : ℕ) (offset : ℤ)
    → f ≡ frame id (pos 0) (to_le_bytes w64 (cast_unsigned w64 offset)) → id < 2 ^ 64 → IsAnswer (Lseek offset) → IsReply f
lseek_is_reply f id offset = answer_is_reply f id (Lseek offset)

-- by the result of an ioctl
pub ioctl_is_reply : (f : List ℕ) (id : ℕ) (result : ℤ) (bytes : List ℕ)
    → f ≡ frame id (pos 0) (ioctl_front result ++ bytes) → id < 2 ^ 64 → IsAnswer (Ioctl result bytes) → IsReply f
ioctl_is_reply f id result bytes = answer_is_reply f id (Ioctl result bytes)

-- by what a file is ready for
pub poll_is_reply : (f : List ℕ) (id revents : ℕ)
    → f ≡ frame id (pos 0) (word_payload revents) → id < 2 ^ 64 → IsAnswer (Poll revents) → IsReply f
poll_is_reply f id revents = answer_is_reply f id (Poll revents)

-- by entries of a directory
pub listing_is_reply : (f : List ℕ) (id : ℕ) (held : List ℕ)
    → f ≡ frame id (pos 0) held → id < 2 ^ 64 → IsListing held → length held ≤ max_payload → IsReply f
listing_is_reply f id held same id_in_range l fits =
    answer_is_reply f id (Directory l.entries) (same ∙ ap (frame id (pos 0)) l.are) id_in_range
    (l.in_range, subst (λ bytes. length bytes ≤ max_payload) l.are fits)

-- with what a lookup answers
pub plus_listing_is_reply : (f : List ℕ) (id : ℕ) (held : List ℕ)
    → f ≡ frame id (pos 0) held → id < 2 ^ 64 → IsPlusListing held → length held ≤ max_payload → IsReply f
plus_listing_is_reply f id held same id_in_range l fits =
    answer_is_reply f id (DirectoryPlus l.entries) (same ∙ ap (frame id (pos 0)) l.are) id_in_range
    (l.in_range, subst (λ bytes. length bytes ≤ max_payload) l.are fits)
