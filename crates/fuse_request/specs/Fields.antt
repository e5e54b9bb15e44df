-- What the fields of a part mean, by the flags and errors of `fuse.h` and `errno.h`.
use Rattle.std.specs.Prelude.{◌==◌, ◌^◌, ℕ, ℤ, pos, negsuc, Bool, true, false, Option, None, Some, Result, Ok, Err}
use Rattle.std.specs.Prelude.{nat_lt, if◌then◌else◌}
use Rattle.std.specs.Int.RustNames.{bit_and}
use Rattle.std.specs.Int.NonZero.{non_zero_u32_get}
use Rattle.fuse_args.specs.declared.fixed.devices.GetLkArguments.{GetLkArguments}
use Rattle.fuse_args.specs.declared.fixed.devices.IoCtlArguments.{IoCtlArguments}
use Rattle.fuse_args.specs.declared.fixed.files.FSyncArguments.{FSyncArguments}
use Rattle.fuse_args.specs.declared.fixed.files.ReadArguments.{ReadArguments}
use Rattle.fuse_args.specs.declared.fixed.files.ReleaseArguments.{ReleaseArguments}
use Rattle.fuse_args.specs.declared.fixed.files.WriteArguments.{WriteArguments}
use Rattle.fuse_args.specs.declared.fixed.nodes.GetAttrArguments.{GetAttrArguments}
use Rattle.fuse_wire.specs.declared.newtypes.INodeNo.{INodeNo}
use Rattle.fuse_wire.specs.ErrorNumbers.{EINVAL}
use Rattle.fuse_wire.specs.Flags.{FUSE_FSYNC_FDATASYNC, FUSE_GETATTR_FH, FUSE_IOCTL_UNRESTRICTED, FUSE_READ_LOCKOWNER}
use Rattle.fuse_wire.specs.Flags.{FUSE_RELEASE_FLOCK_UNLOCK, FUSE_RELEASE_FLUSH, FUSE_WRITE_LOCKOWNER}
use Rattle.fuse_request.specs.declared.locks.Lock.{Lock}
use Rattle.fuse_request.specs.declared.file_ranges.CopyFileRangeFile.{CopyFileRangeFile}
use Rattle.fuse_request.specs.declared.xattrs.GetXAttrSizeEnum.{GetXAttrSizeEnum}
use Rattle.fuse_request.specs.declared.xattrs.GetXAttrSizeEnum.TheVariants.{GetSize, Size}

-- whether flags have this one
abbrev pub has_flag : (flag flags : ℕ) → Bool
has_flag flag flags = bit_and flags flag == flag

-- a field that is valid where flags have this one
abbrev pub where_flag : {X : Type 0} → (flag flags : ℕ) → X → Option X
where_flag flag flags field = if has_flag flag flags then Some field else None

-- the open file of GETATTR
abbrev pub getattr_handle : GetAttrArguments → Option ℕ
getattr_handle arguments = where_flag FUSE_GETATTR_FH arguments.getattr_flags arguments.fh

-- the owner of locks of READ
abbrev pub read_lock_owner : ReadArguments → Option ℕ
read_lock_owner arguments = where_flag FUSE_READ_LOCKOWNER arguments.read_flags arguments.lock_owner

-- the owner of locks of WRITE
abbrev pub write_lock_owner : WriteArguments → Option ℕ
write_lock_owner arguments = where_flag FUSE_WRITE_LOCKOWNER arguments.write_flags arguments.lock_owner

-- the owner of locks of RELEASE and RELEASEDIR
abbrev pub release_lock_owner : ReleaseArguments → Option ℕ
release_lock_owner arguments = where_flag FUSE_RELEASE_FLOCK_UNLOCK arguments.release_flags arguments.lock_owner

-- whether RELEASE and RELEASEDIR write what is held back
abbrev pub flushes : ReleaseArguments → Bool
flushes arguments = has_flag FUSE_RELEASE_FLUSH arguments.release_flags

-- whether FSYNC and FSYNCDIR write the contents alone
abbrev pub contents_alone : FSyncArguments → Bool
contents_alone arguments = has_flag FUSE_FSYNC_FDATASYNC arguments.fsync_flags

-- whether the kernel knows no bytes of the command of IOCTL
abbrev pub is_unrestricted : IoCtlArguments → Bool
is_unrestricted arguments = has_flag FUSE_IOCTL_UNRESTRICTED arguments.flags

-- an offset in a file, or a length: a number below 2 ^ 63
abbrev pub file_offset : ℕ → Result ℕ ℕ
file_offset offset = if nat_lt offset (2 ^ 63) then Ok offset else Err EINVAL

-- an offset that is sent with a sign: one that is not negative
abbrev pub signed_offset : ℤ → Result ℕ ℕ
signed_offset (pos offset) = Ok offset
signed_offset (negsuc n) = Err EINVAL

-- a place in an open file, where its offset is one
abbrev pub range_file : INodeNo → (fh : ℕ) → Result ℕ ℕ → Result CopyFileRangeFile ℕ
range_file inode fh (Ok offset) = Ok (record { inode = inode; file_handle = record { 0 = fh }; offset = offset })
range_file inode fh (Err e) = Err e

-- the lock of GETLK, SETLK and SETLKW
abbrev pub lock_of : GetLkArguments → Lock
lock_of arguments = record { range = (arguments.start, arguments.end); typ = arguments.typ; pid = arguments.pid }

-- the size that GETXATTR has: 0 where only the size is wanted
abbrev pub size_wanted : GetXAttrSizeEnum → ℕ
size_wanted (GetSize nothing) = 0
size_wanted (Size size) = non_zero_u32_get size

-- whether GETXATTR wants the same
abbrev pub same_size : GetXAttrSizeEnum → GetXAttrSizeEnum → Bool
same_size (GetSize nothing) (GetSize nothing1) = true
same_size (GetSize nothing) (Size size) = false
same_size (Size size) (GetSize nothing) = false
same_size (Size size) (Size size1) = non_zero_u32_get size == non_zero_u32_get size1
