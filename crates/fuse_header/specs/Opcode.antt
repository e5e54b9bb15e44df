-- The numbers of the operations (`enum fuse_opcode` of `fuse.h`).
use Rattle.std.specs.Prelude.{ℕ}

abbrev pub FUSE_LOOKUP : ℕ
FUSE_LOOKUP = 1

abbrev pub FUSE_FORGET : ℕ
FUSE_FORGET = 2

abbrev pub FUSE_GETATTR : ℕ
FUSE_GETATTR = 3

abbrev pub FUSE_SETATTR : ℕ
FUSE_SETATTR = 4

abbrev pub FUSE_READLINK : ℕ
FUSE_READLINK = 5

abbrev pub FUSE_SYMLINK : ℕ
FUSE_SYMLINK = 6

abbrev pub FUSE_MKNOD : ℕ
FUSE_MKNOD = 8

abbrev pub FUSE_MKDIR : ℕ
FUSE_MKDIR = 9

abbrev pub FUSE_UNLINK : ℕ
FUSE_UNLINK = 10

abbrev pub FUSE_RMDIR : ℕ
FUSE_RMDIR = 11

abbrev pub FUSE_RENAME : ℕ
FUSE_RENAME = 12

abbrev pub FUSE_LINK : ℕ
FUSE_LINK = 13

abbrev pub FUSE_OPEN : ℕ
FUSE_OPEN = 14

abbrev pub FUSE_READ : ℕ
FUSE_READ = 15

abbrev pub FUSE_WRITE : ℕ
FUSE_WRITE = 16

abbrev pub FUSE_STATFS : ℕ
FUSE_STATFS = 17

abbrev pub FUSE_RELEASE : ℕ
FUSE_RELEASE = 18

abbrev pub FUSE_FSYNC : ℕ
FUSE_FSYNC = 20

abbrev pub FUSE_SETXATTR : ℕ
FUSE_SETXATTR = 21

abbrev pub FUSE_GETXATTR : ℕ
FUSE_GETXATTR = 22

abbrev pub FUSE_LISTXATTR : ℕ
FUSE_LISTXATTR = 23

abbrev pub FUSE_REMOVEXATTR : ℕ
FUSE_REMOVEXATTR = 24

abbrev pub FUSE_FLUSH : ℕ
FUSE_FLUSH = 25

abbrev pub FUSE_INIT : ℕ
FUSE_INIT = 26

abbrev pub FUSE_OPENDIR : ℕ
FUSE_OPENDIR = 27

abbrev pub FUSE_READDIR : ℕ
FUSE_READDIR = 28

abbrev pub FUSE_RELEASEDIR : ℕ
FUSE_RELEASEDIR = 29

abbrev pub FUSE_FSYNCDIR : ℕ
FUSE_FSYNCDIR = 30

abbrev pub FUSE_GETLK : ℕ
FUSE_GETLK = 31

abbrev pub FUSE_SETLK : ℕ
FUSE_SETLK = 32

abbrev pub FUSE_SETLKW : ℕ
FUSE_SETLKW = 33

abbrev pub FUSE_ACCESS : ℕ
FUSE_ACCESS = 34

abbrev pub FUSE_CREATE : ℕ
FUSE_CREATE = 35

abbrev pub FUSE_INTERRUPT : ℕ
FUSE_INTERRUPT = 36

abbrev pub FUSE_BMAP : ℕ
FUSE_BMAP = 37

abbrev pub FUSE_DESTROY : ℕ
FUSE_DESTROY = 38

abbrev pub FUSE_IOCTL : ℕ
FUSE_IOCTL = 39

abbrev pub FUSE_POLL : ℕ
FUSE_POLL = 40

abbrev pub FUSE_NOTIFY_REPLY : ℕ
FUSE_NOTIFY_REPLY = 41

abbrev pub FUSE_BATCH_FORGET : ℕ
FUSE_BATCH_FORGET = 42

abbrev pub FUSE_FALLOCATE : ℕ
FUSE_FALLOCATE = 43

abbrev pub FUSE_READDIRPLUS : ℕ
FUSE_READDIRPLUS = 44

abbrev pub FUSE_RENAME2 : ℕ
FUSE_RENAME2 = 45

abbrev pub FUSE_LSEEK : ℕ
FUSE_LSEEK = 46

abbrev pub FUSE_COPY_FILE_RANGE : ℕ
FUSE_COPY_FILE_RANGE = 47

abbrev pub CUSE_INIT : ℕ
CUSE_INIT = 4096
