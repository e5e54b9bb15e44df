-- Flags of `fuse.h` that contracts speak of by name: each is its bit.
use Rattle.std.specs.Prelude.{ℕ, ◌^◌}

-- of `flags` and `flags2` in `struct fuse_init_in`
abbrev pub FUSE_ASYNC_READ : ℕ
FUSE_ASYNC_READ = 2 ^ 0

abbrev pub FUSE_POSIX_LOCKS : ℕ
FUSE_POSIX_LOCKS = 2 ^ 1

abbrev pub FUSE_BIG_WRITES : ℕ
FUSE_BIG_WRITES = 2 ^ 5

abbrev pub FUSE_MAX_PAGES : ℕ
FUSE_MAX_PAGES = 2 ^ 22

abbrev pub FUSE_SETXATTR_EXT : ℕ
FUSE_SETXATTR_EXT = 2 ^ 29

abbrev pub FUSE_INIT_EXT : ℕ
FUSE_INIT_EXT = 2 ^ 30

abbrev pub FUSE_PASSTHROUGH : ℕ
FUSE_PASSTHROUGH = 2 ^ 37

-- of `open_flags` in `struct fuse_open_out`: the kernel reads and writes a file of its own, whose number stands beside
abbrev pub FOPEN_PASSTHROUGH : ℕ
FOPEN_PASSTHROUGH = 2 ^ 7

-- of `getattr_flags` in `struct fuse_getattr_in`
abbrev pub FUSE_GETATTR_FH : ℕ
FUSE_GETATTR_FH = 2 ^ 0

-- of `valid` in `struct fuse_setattr_in`
abbrev pub FATTR_MODE : ℕ
FATTR_MODE = 2 ^ 0

abbrev pub FATTR_UID : ℕ
FATTR_UID = 2 ^ 1

abbrev pub FATTR_GID : ℕ
FATTR_GID = 2 ^ 2

abbrev pub FATTR_SIZE : ℕ
FATTR_SIZE = 2 ^ 3

abbrev pub FATTR_ATIME : ℕ
FATTR_ATIME = 2 ^ 4

abbrev pub FATTR_MTIME : ℕ
FATTR_MTIME = 2 ^ 5

abbrev pub FATTR_FH : ℕ
FATTR_FH = 2 ^ 6

abbrev pub FATTR_ATIME_NOW : ℕ
FATTR_ATIME_NOW = 2 ^ 7

abbrev pub FATTR_MTIME_NOW : ℕ
FATTR_MTIME_NOW = 2 ^ 8

abbrev pub FATTR_CTIME : ℕ
FATTR_CTIME = 2 ^ 10

-- of `read_flags` in `struct fuse_read_in`
abbrev pub FUSE_READ_LOCKOWNER : ℕ
FUSE_READ_LOCKOWNER = 2 ^ 1

-- of `write_flags` in `struct fuse_write_in`
abbrev pub FUSE_WRITE_LOCKOWNER : ℕ
FUSE_WRITE_LOCKOWNER = 2 ^ 1

-- of `release_flags` in `struct fuse_release_in`
abbrev pub FUSE_RELEASE_FLUSH : ℕ
FUSE_RELEASE_FLUSH = 2 ^ 0

abbrev pub FUSE_RELEASE_FLOCK_UNLOCK : ℕ
FUSE_RELEASE_FLOCK_UNLOCK = 2 ^ 1

-- of `fsync_flags` in `struct fuse_fsync_in`
abbrev pub FUSE_FSYNC_FDATASYNC : ℕ
FUSE_FSYNC_FDATASYNC = 2 ^ 0

-- of `flags` in `struct fuse_ioctl_in`
abbrev pub FUSE_IOCTL_UNRESTRICTED : ℕ
FUSE_IOCTL_UNRESTRICTED = 2 ^ 1
