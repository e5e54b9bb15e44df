-- Sets of flags (`fuse.h`): each name and its bit.
use Rattle.std.specs.Prelude.{ℕ, List, [], ◌∷◌, codes, ◌^◌}
use Rattle.fuse_wire.specs.Flags.{FUSE_ASYNC_READ, FUSE_POSIX_LOCKS, FUSE_BIG_WRITES, FUSE_MAX_PAGES, FUSE_SETXATTR_EXT}
use Rattle.fuse_wire.specs.Flags.{FUSE_INIT_EXT, FUSE_PASSTHROUGH}
use Rattle.fuse_wire.specs.Flags.{FOPEN_PASSTHROUGH, FUSE_GETATTR_FH, FATTR_MODE, FATTR_UID, FATTR_GID, FATTR_SIZE, FATTR_ATIME, FATTR_MTIME}
use Rattle.fuse_wire.specs.Flags.{FATTR_FH, FATTR_ATIME_NOW, FATTR_MTIME_NOW, FATTR_CTIME, FUSE_READ_LOCKOWNER, FUSE_WRITE_LOCKOWNER}
use Rattle.fuse_wire.specs.Flags.{FUSE_RELEASE_FLUSH, FUSE_RELEASE_FLOCK_UNLOCK, FUSE_FSYNC_FDATASYNC, FUSE_IOCTL_UNRESTRICTED}

-- the capabilities that INIT negotiates ("INIT request/reply flags"): `flags` of `struct fuse_init_in`, and from bit 32 on `flags2`
abbrev pub init_flags_table : List (List ℕ × ℕ)
init_flags_table =
    (codes "FUSE_ASYNC_READ", FUSE_ASYNC_READ)
    ∷ (codes "FUSE_POSIX_LOCKS", FUSE_POSIX_LOCKS)
    ∷ (codes "FUSE_FILE_OPS", 2 ^ 2)
    ∷ (codes "FUSE_ATOMIC_O_TRUNC", 2 ^ 3)
    ∷ (codes "FUSE_EXPORT_SUPPORT", 2 ^ 4)
    ∷ (codes "FUSE_BIG_WRITES", FUSE_BIG_WRITES)
    ∷ (codes "FUSE_DONT_MASK", 2 ^ 6)
    ∷ (codes "FUSE_SPLICE_WRITE", 2 ^ 7)
    ∷ (codes "FUSE_SPLICE_MOVE", 2 ^ 8)
    ∷ (codes "FUSE_SPLICE_READ", 2 ^ 9)
    ∷ (codes "FUSE_FLOCK_LOCKS", 2 ^ 10)
    ∷ (codes "FUSE_HAS_IOCTL_DIR", 2 ^ 11)
    ∷ (codes "FUSE_AUTO_INVAL_DATA", 2 ^ 12)
    ∷ (codes "FUSE_DO_READDIRPLUS", 2 ^ 13)
    ∷ (codes "FUSE_READDIRPLUS_AUTO", 2 ^ 14)
    ∷ (codes "FUSE_ASYNC_DIO", 2 ^ 15)
    ∷ (codes "FUSE_WRITEBACK_CACHE", 2 ^ 16)
    ∷ (codes "FUSE_NO_OPEN_SUPPORT", 2 ^ 17)
    ∷ (codes "FUSE_PARALLEL_DIROPS", 2 ^ 18)
    ∷ (codes "FUSE_HANDLE_KILLPRIV", 2 ^ 19)
    ∷ (codes "FUSE_POSIX_ACL", 2 ^ 20)
    ∷ (codes "FUSE_ABORT_ERROR", 2 ^ 21)
    ∷ (codes "FUSE_MAX_PAGES", FUSE_MAX_PAGES)
    ∷ (codes "FUSE_CACHE_SYMLINKS", 2 ^ 23)
    ∷ (codes "FUSE_NO_OPENDIR_SUPPORT", 2 ^ 24)
    ∷ (codes "FUSE_EXPLICIT_INVAL_DATA", 2 ^ 25)
    ∷ (codes "FUSE_MAP_ALIGNMENT", 2 ^ 26)
    ∷ (codes "FUSE_SUBMOUNTS", 2 ^ 27)
    ∷ (codes "FUSE_HANDLE_KILLPRIV_V2", 2 ^ 28)
    ∷ (codes "FUSE_SETXATTR_EXT", FUSE_SETXATTR_EXT)
    ∷ (codes "FUSE_INIT_EXT", FUSE_INIT_EXT)
    ∷ (codes "FUSE_INIT_RESERVED", 2 ^ 31)
    ∷ (codes "FUSE_SECURITY_CTX", 2 ^ 32)
    ∷ (codes "FUSE_HAS_INODE_DAX", 2 ^ 33)
    ∷ (codes "FUSE_CREATE_SUPP_GROUP", 2 ^ 34)
    ∷ (codes "FUSE_HAS_EXPIRE_ONLY", 2 ^ 35)
    ∷ (codes "FUSE_DIRECT_IO_ALLOW_MMAP", 2 ^ 36)
    ∷ (codes "FUSE_PASSTHROUGH", FUSE_PASSTHROUGH)
    ∷ (codes "FUSE_NO_EXPORT_SUPPORT", 2 ^ 38)
    ∷ (codes "FUSE_HAS_RESEND", 2 ^ 39)
    ∷ (codes "FUSE_ALLOW_IDMAP", 2 ^ 40)
    ∷ (codes "FUSE_OVER_IO_URING", 2 ^ 41)
    ∷ (codes "FUSE_REQUEST_TIMEOUT", 2 ^ 42)
    ∷ []

-- how an opened file or directory is treated: `open_flags` of `struct fuse_open_out`
abbrev pub fopen_flags_table : List (List ℕ × ℕ)
fopen_flags_table =
    (codes "FOPEN_DIRECT_IO", 2 ^ 0)
    ∷ (codes "FOPEN_KEEP_CACHE", 2 ^ 1)
    ∷ (codes "FOPEN_NONSEEKABLE", 2 ^ 2)
    ∷ (codes "FOPEN_CACHE_DIR", 2 ^ 3)
    ∷ (codes "FOPEN_STREAM", 2 ^ 4)
    ∷ (codes "FOPEN_NOFLUSH", 2 ^ 5)
    ∷ (codes "FOPEN_PARALLEL_DIRECT_WRITES", 2 ^ 6)
    ∷ (codes "FOPEN_PASSTHROUGH", FOPEN_PASSTHROUGH)
    ∷ []

-- what GETATTR says: `getattr_flags` of `struct fuse_getattr_in`
abbrev pub getattr_flags_table : List (List ℕ × ℕ)
getattr_flags_table =
    (codes "FUSE_GETATTR_FH", FUSE_GETATTR_FH)
    ∷ []

-- what SETATTR is to set: `valid` of `struct fuse_setattr_in`
abbrev pub fattr_flags_table : List (List ℕ × ℕ)
fattr_flags_table =
    (codes "FATTR_MODE", FATTR_MODE)
    ∷ (codes "FATTR_UID", FATTR_UID)
    ∷ (codes "FATTR_GID", FATTR_GID)
    ∷ (codes "FATTR_SIZE", FATTR_SIZE)
    ∷ (codes "FATTR_ATIME", FATTR_ATIME)
    ∷ (codes "FATTR_MTIME", FATTR_MTIME)
    ∷ (codes "FATTR_FH", FATTR_FH)
    ∷ (codes "FATTR_ATIME_NOW", FATTR_ATIME_NOW)
    ∷ (codes "FATTR_MTIME_NOW", FATTR_MTIME_NOW)
    ∷ (codes "FATTR_LOCKOWNER", 2 ^ 9)
    ∷ (codes "FATTR_CTIME", FATTR_CTIME)
    ∷ []

-- how to read: `read_flags` of `struct fuse_read_in`
abbrev pub read_flags_table : List (List ℕ × ℕ)
read_flags_table =
    (codes "FUSE_READ_LOCKOWNER", FUSE_READ_LOCKOWNER)
    ∷ []

-- how to write: `write_flags` of `struct fuse_write_in`
abbrev pub write_flags_table : List (List ℕ × ℕ)
write_flags_table =
    (codes "FUSE_WRITE_CACHE", 2 ^ 0)
    ∷ (codes "FUSE_WRITE_LOCKOWNER", FUSE_WRITE_LOCKOWNER)
    ∷ (codes "FUSE_WRITE_KILL_SUIDGID", 2 ^ 2)
    ∷ []

-- what setting an extended attribute does beside: `setxattr_flags` of `struct fuse_setxattr_in`
abbrev pub setxattr_flags_table : List (List ℕ × ℕ)
setxattr_flags_table =
    (codes "FUSE_SETXATTR_ACL_KILL_SGID", 2 ^ 0)
    ∷ []

-- what else a release does: `release_flags` of `struct fuse_release_in`
abbrev pub release_flags_table : List (List ℕ × ℕ)
release_flags_table =
    (codes "FUSE_RELEASE_FLUSH", FUSE_RELEASE_FLUSH)
    ∷ (codes "FUSE_RELEASE_FLOCK_UNLOCK", FUSE_RELEASE_FLOCK_UNLOCK)
    ∷ []

-- what to bring to the disk: `fsync_flags` of `struct fuse_fsync_in`
abbrev pub fsync_flags_table : List (List ℕ × ℕ)
fsync_flags_table =
    (codes "FUSE_FSYNC_FDATASYNC", FUSE_FSYNC_FDATASYNC)
    ∷ []

-- how an `ioctl` is called: `flags` of `struct fuse_ioctl_in` and of `struct fuse_ioctl_out`
abbrev pub ioctl_flags_table : List (List ℕ × ℕ)
ioctl_flags_table =
    (codes "FUSE_IOCTL_COMPAT", 2 ^ 0)
    ∷ (codes "FUSE_IOCTL_UNRESTRICTED", FUSE_IOCTL_UNRESTRICTED)
    ∷ (codes "FUSE_IOCTL_RETRY", 2 ^ 2)
    ∷ (codes "FUSE_IOCTL_32BIT", 2 ^ 3)
    ∷ (codes "FUSE_IOCTL_DIR", 2 ^ 4)
    ∷ (codes "FUSE_IOCTL_COMPAT_X32", 2 ^ 5)
    ∷ []

-- what a character device may do: `flags` of `struct cuse_init_in` and of `struct cuse_init_out`
abbrev pub cuse_init_flags_table : List (List ℕ × ℕ)
cuse_init_flags_table =
    (codes "CUSE_UNRESTRICTED_IOCTL", 2 ^ 0)
    ∷ []

-- how to poll: `flags` of `struct fuse_poll_in`
abbrev pub poll_flags_table : List (List ℕ × ℕ)
poll_flags_table =
    (codes "FUSE_POLL_SCHEDULE_NOTIFY", 2 ^ 0)
    ∷ []

-- what is asked of a file, `events` of `struct fuse_poll_in`, and what it is ready for, `revents` of `struct fuse_poll_out`, by `poll(2)`
abbrev pub poll_events_table : List (List ℕ × ℕ)
poll_events_table =
    (codes "POLLIN", 2 ^ 0)
    ∷ (codes "POLLPRI", 2 ^ 1)
    ∷ (codes "POLLOUT", 2 ^ 2)
    ∷ (codes "POLLERR", 2 ^ 3)
    ∷ (codes "POLLHUP", 2 ^ 4)
    ∷ (codes "POLLNVAL", 2 ^ 5)
    ∷ (codes "POLLRDNORM", 2 ^ 6)
    ∷ (codes "POLLRDBAND", 2 ^ 7)
    ∷ (codes "POLLWRNORM", 2 ^ 8)
    ∷ (codes "POLLWRBAND", 2 ^ 9)
    ∷ []

-- how to rename: `flags` of `struct fuse_rename2_in`, by `renameat2(2)`
abbrev pub rename_flags_table : List (List ℕ × ℕ)
rename_flags_table =
    (codes "RENAME_NOREPLACE", 2 ^ 0)
    ∷ (codes "RENAME_EXCHANGE", 2 ^ 1)
    ∷ (codes "RENAME_WHITEOUT", 2 ^ 2)
    ∷ []
