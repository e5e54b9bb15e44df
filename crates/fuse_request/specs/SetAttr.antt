-- What SETATTR sets: each field where `valid` has its flag (`FATTR_` of `fuse.h`).
use Rattle.std.specs.Prelude.{ℕ, ℤ, Option, if◌then◌else◌}
use Rattle.fuse_args.specs.declared.fixed.nodes.SetAttrArguments.{SetAttrArguments}
use Rattle.fuse_wire.specs.Flags.{FATTR_ATIME, FATTR_ATIME_NOW, FATTR_CTIME, FATTR_FH, FATTR_GID, FATTR_MODE, FATTR_MTIME, FATTR_MTIME_NOW}
use Rattle.fuse_wire.specs.Flags.{FATTR_SIZE, FATTR_UID}
use Rattle.fuse_wire.specs.Times.{time_in}
use Rattle.fuse_wire.specs.declared.time.SystemTime.{SystemTime}
use Rattle.fuse_wire.specs.declared.time.TimeOrNow.{TimeOrNow}
use Rattle.fuse_wire.specs.declared.time.TimeOrNow.TheVariants.{SpecificTime, Now}
use Rattle.fuse_request.specs.Fields.{has_flag, where_flag}

-- the kind and the permissions
abbrev pub new_mode : SetAttrArguments → Option ℕ
new_mode a = where_flag FATTR_MODE a.valid a.mode

-- the owner
abbrev pub new_uid : SetAttrArguments → Option ℕ
new_uid a = where_flag FATTR_UID a.valid a.uid

-- the group
abbrev pub new_gid : SetAttrArguments → Option ℕ
new_gid a = where_flag FATTR_GID a.valid a.gid

-- the size
abbrev pub new_size : SetAttrArguments → Option ℕ
new_size a = where_flag FATTR_SIZE a.valid a.size

-- a time of so many seconds and nanoseconds
abbrev pub time_of : ℤ → ℕ → SystemTime
time_of secs nanos = record { 0 = time_in secs nanos }

-- the present where flags have this one, and else that time
abbrev pub now_or : (flag flags : ℕ) → SystemTime → TimeOrNow
now_or flag flags time = if has_flag flag flags then Now else SpecificTime time

-- when it was last read
abbrev pub new_atime : SetAttrArguments → Option TimeOrNow
new_atime a = where_flag FATTR_ATIME a.valid (now_or FATTR_ATIME_NOW a.valid (time_of a.atime a.atimensec))

-- when it was last written
abbrev pub new_mtime : SetAttrArguments → Option TimeOrNow
new_mtime a = where_flag FATTR_MTIME a.valid (now_or FATTR_MTIME_NOW a.valid (time_of a.mtime a.mtimensec))

-- the open file
abbrev pub file_of : SetAttrArguments → Option ℕ
file_of a = where_flag FATTR_FH a.valid a.fh

-- when its attributes last changed
abbrev pub new_ctime : SetAttrArguments → Option SystemTime
new_ctime a = where_flag FATTR_CTIME a.valid (time_of a.ctime a.ctimensec)
