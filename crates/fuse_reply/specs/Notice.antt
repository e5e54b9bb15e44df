-- Notices: frames that nobody asked for, with a positive status and no id (`enum fuse_notify_code` and the structs of `fuse.h`).
use Rattle.std.specs.Prelude.{◌≡◌, ℕ, ◌++◌, ◌<◌, ◌≤◌, ◌^◌, List, [], ◌∷◌, length, pos, ℤ, replicate, FitsSigned}
use Rattle.std.specs.Int.{w32, w64, to_le_bytes, cast_unsigned}
use Rattle.fuse_reply.specs.Sizes.{max_payload}
use Rattle.fuse_reply.specs.Answer.{AreBytes}
use Rattle.fuse_reply.specs.Frame.{frame}

pub data Notice : Type 0 where
  -- a file that is polled has news
  Poll : (kh : ℕ) → Notice
  -- the kernel is to drop what it keeps of an inode, in a range
  InvalInode : (ino : ℕ) (offset len : ℤ) → Notice
  -- the kernel is to drop a name
  InvalEntry : (parent : ℕ) (name : List ℕ) → Notice
  -- the kernel is to keep these bytes of an inode
  Store : (ino offset : ℕ) (bytes : List ℕ) → Notice
  -- a name is gone, with the inode that it led to
  Delete : (parent child : ℕ) (name : List ℕ) → Notice

abbrev pub FUSE_NOTIFY_POLL : ℕ
FUSE_NOTIFY_POLL = 1

abbrev pub FUSE_NOTIFY_INVAL_INODE : ℕ
FUSE_NOTIFY_INVAL_INODE = 2

abbrev pub FUSE_NOTIFY_INVAL_ENTRY : ℕ
FUSE_NOTIFY_INVAL_ENTRY = 3

abbrev pub FUSE_NOTIFY_STORE : ℕ
FUSE_NOTIFY_STORE = 4

abbrev pub FUSE_NOTIFY_DELETE : ℕ
FUSE_NOTIFY_DELETE = 6

-- the code that stands as the status
abbrev pub notify_code : Notice → ℕ
notify_code (Poll kh) = FUSE_NOTIFY_POLL
notify_code (InvalInode ino offset len) = FUSE_NOTIFY_INVAL_INODE
notify_code (InvalEntry parent name) = FUSE_NOTIFY_INVAL_ENTRY
notify_code (Store ino offset bytes) = FUSE_NOTIFY_STORE
notify_code (Delete parent child name) = FUSE_NOTIFY_DELETE

-- kh8; ino8 off8i len8i; parent8 namelen4 _4 name _1; nodeid8 offset8 size4 _4 data; parent8 child8 namelen4 _4 name _1
abbrev pub notice_payload : Notice → List ℕ
notice_payload (Poll kh) = to_le_bytes w64 kh
notice_payload (InvalInode ino offset len) =
    to_le_bytes w64 ino ++ to_le_bytes w64 (cast_unsigned w64 offset) ++ to_le_bytes w64 (cast_unsigned w64 len)
notice_payload (InvalEntry parent name) = to_le_bytes w64 parent ++ to_le_bytes w32 (length name) ++ replicate 4 0 ++ name ++ 0 ∷ []
notice_payload (Store ino offset bytes) =
    to_le_bytes w64 ino ++ to_le_bytes w64 offset ++ to_le_bytes w32 (length bytes) ++ replicate 4 0 ++ bytes
notice_payload (Delete parent child name) =
    to_le_bytes w64 parent ++ to_le_bytes w64 child ++ to_le_bytes w32 (length name) ++ replicate 4 0 ++ name ++ 0 ∷ []

abbrev pub notice : Notice → List ℕ
notice n = frame 0 (pos (notify_code n)) (notice_payload n)

-- each number in the range of its field
abbrev pub HasRanges : Notice → Type 0
HasRanges (Poll kh) = kh < 2 ^ 64
HasRanges (InvalInode ino offset len) = (ino < 2 ^ 64) × FitsSigned w64 offset × FitsSigned w64 len
HasRanges (InvalEntry parent name) = (parent < 2 ^ 64) × AreBytes name
HasRanges (Store ino offset bytes) = (ino < 2 ^ 64) × (offset < 2 ^ 64) × AreBytes bytes
HasRanges (Delete parent child name) = (parent < 2 ^ 64) × (child < 2 ^ 64) × AreBytes name

-- a frame can carry it: the length field has 4 bytes, and counts the header too
abbrev pub FitsFrame : Notice → Type 0
FitsFrame n = length (notice_payload n) ≤ max_payload

-- no frame can carry it
abbrev pub IsTooBig : Notice → Type 0
IsTooBig n = max_payload < length (notice_payload n)

-- A notice is in range where its numbers are, and a frame can carry it. The length of a name or of data is then below 2^32 too.
pub record IsNotice (n : Notice) : Type 0 where
  pub ranges : HasRanges n
  pub fits : FitsFrame n

-- these bytes are the frame of a notice in range
pub record IsNoticeFrame (bytes : List ℕ) : Type 0 where
  pub notice_of : Notice
  pub in_range : IsNotice notice_of
  pub is_notice : bytes ≡ notice notice_of
