-- The parts of requests of open files: the structs of `fuse.h` field by field.
use Rattle.std.specs.Prelude.{ℕ, List, Option}
use Rattle.std.specs.Int.{w32, w64}
use Rattle.fuse_wire.specs.Numbers.{number, signed}
use Rattle.fuse_args.specs.Arguments.{fixed}
use Rattle.fuse_args.specs.declared.fixed.files.CopyFileRangeArguments.{CopyFileRangeArguments}
use Rattle.fuse_args.specs.declared.fixed.files.CreateArguments.{CreateArguments}
use Rattle.fuse_args.specs.declared.fixed.files.FAllocateArguments.{FAllocateArguments}
use Rattle.fuse_args.specs.declared.fixed.files.FSyncArguments.{FSyncArguments}
use Rattle.fuse_args.specs.declared.fixed.files.FlushArguments.{FlushArguments}
use Rattle.fuse_args.specs.declared.fixed.files.LseekArguments.{LseekArguments}
use Rattle.fuse_args.specs.declared.fixed.files.OpenArguments.{OpenArguments}
use Rattle.fuse_args.specs.declared.fixed.files.ReadArguments.{ReadArguments}
use Rattle.fuse_args.specs.declared.fixed.files.ReleaseArguments.{ReleaseArguments}
use Rattle.fuse_args.specs.declared.fixed.files.WriteArguments.{WriteArguments}

-- OPEN and OPENDIR: flags4i _4 (`struct fuse_open_in`)
abbrev pub open_at : List ℕ → Option (OpenArguments × List ℕ)
open_at = fixed 8 (λ b. record { flags = signed w32 b 0 })

-- CREATE: flags4i mode4 umask4 _4 (`struct fuse_create_in`)
abbrev pub create_at : List ℕ → Option (CreateArguments × List ℕ)
create_at = fixed 16 (λ b. record { flags = signed w32 b 0; mode = number b 4 4; umask = number b 8 4 })

-- READ, READDIR and READDIRPLUS: fh8 offset8 size4 read_flags4 lock_owner8 flags4i _4 (`struct fuse_read_in`)
abbrev pub read_at : List ℕ → Option (ReadArguments × List ℕ)
read_at = fixed 40 (λ b. record {
  fh = number b 0 8;
  offset = number b 8 8;
  size = number b 16 4;
  read_flags = number b 20 4;
  lock_owner = number b 24 8;
  flags = signed w32 b 32;
})

-- WRITE: fh8 offset8i size4 write_flags4 lock_owner8 flags4i _4 (`struct fuse_write_in`)
abbrev pub write_at : List ℕ → Option (WriteArguments × List ℕ)
write_at = fixed 40 (λ b. record {
  fh = number b 0 8;
  offset = signed w64 b 8;
  size = number b 16 4;
  write_flags = number b 20 4;
  lock_owner = number b 24 8;
  flags = signed w32 b 32;
})

-- FLUSH: fh8 _4 _4 lock_owner8 (`struct fuse_flush_in`)
abbrev pub flush_at : List ℕ → Option (FlushArguments × List ℕ)
flush_at = fixed 24 (λ b. record { fh = number b 0 8; lock_owner = number b 16 8 })

-- FSYNC and FSYNCDIR: fh8 fsync_flags4 _4 (`struct fuse_fsync_in`)
abbrev pub fsync_at : List ℕ → Option (FSyncArguments × List ℕ)
fsync_at = fixed 16 (λ b. record { fh = number b 0 8; fsync_flags = number b 8 4 })

-- RELEASE and RELEASEDIR: fh8 flags4i release_flags4 lock_owner8 (`struct fuse_release_in`)
abbrev pub release_at : List ℕ → Option (ReleaseArguments × List ℕ)
release_at = fixed 24 (λ b. record {
  fh = number b 0 8;
  flags = signed w32 b 8;
  release_flags = number b 12 4;
  lock_owner = number b 16 8;
})

-- FALLOCATE: fh8 offset8 length8 mode4i _4 (`struct fuse_fallocate_in`)
abbrev pub fallocate_at : List ℕ → Option (FAllocateArguments × List ℕ)
fallocate_at = fixed 32 (λ b. record {
  fh = number b 0 8;
  offset = number b 8 8;
  length = number b 16 8;
  mode = signed w32 b 24;
})

-- LSEEK: fh8 offset8i whence4i _4 (`struct fuse_lseek_in`)
abbrev pub lseek_at : List ℕ → Option (LseekArguments × List ℕ)
lseek_at = fixed 24 (λ b. record { fh = number b 0 8; offset = signed w64 b 8; whence = signed w32 b 16 })

-- COPY_FILE_RANGE: fh_in8 off_in8i nodeid_out8 fh_out8 off_out8i len8 flags8 (`struct fuse_copy_file_range_in`)
abbrev pub copy_file_range_at : List ℕ → Option (CopyFileRangeArguments × List ℕ)
copy_file_range_at = fixed 56 (λ b. record {
  fh_in = number b 0 8;
  off_in = signed w64 b 8;
  nodeid_out = number b 16 8;
  fh_out = number b 24 8;
  off_out = signed w64 b 32;
  len = number b 40 8;
  flags = number b 48 8;
})
