-- The parts of requests of nodes and their names: the structs of `fuse.h` field by field.
use Rattle.std.specs.Prelude.{ℕ, List, Option}
use Rattle.std.specs.Int.{w32, w64}
use Rattle.fuse_wire.specs.Numbers.{number, signed}
use Rattle.fuse_args.specs.Arguments.{fixed}
use Rattle.fuse_args.specs.declared.fixed.nodes.AccessArguments.{AccessArguments}
use Rattle.fuse_args.specs.declared.fixed.nodes.BatchForgetArguments.{BatchForgetArguments}
use Rattle.fuse_args.specs.declared.fixed.nodes.GetAttrArguments.{GetAttrArguments}
use Rattle.fuse_args.specs.declared.fixed.nodes.GetXAttrArguments.{GetXAttrArguments}
use Rattle.fuse_args.specs.declared.fixed.nodes.MkDirArguments.{MkDirArguments}
use Rattle.fuse_args.specs.declared.fixed.nodes.MkNodArguments.{MkNodArguments}
use Rattle.fuse_args.specs.declared.fixed.nodes.Rename2Arguments.{Rename2Arguments}
use Rattle.fuse_args.specs.declared.fixed.nodes.SetAttrArguments.{SetAttrArguments}
use Rattle.fuse_args.specs.declared.fixed.nodes.SetXAttrArguments.{SetXAttrArguments}

-- GETATTR: getattr_flags4 _4 fh8 (`struct fuse_getattr_in`)
abbrev pub getattr_at : List ℕ → Option (GetAttrArguments × List ℕ)
getattr_at = fixed 16 (λ b. record { getattr_flags = number b 0 4; fh = number b 8 8 })

-- SETATTR: valid4 _4 fh8 size8 lock_owner8 atime8i mtime8i ctime8i atimensec4 mtimensec4 ctimensec4 mode4 _4 uid4 gid4 _4
-- (`struct fuse_setattr_in`)
abbrev pub setattr_at : List ℕ → Option (SetAttrArguments × List ℕ)
setattr_at = fixed 88 (λ b. record {
  valid = number b 0 4;
  fh = number b 8 8;
  size = number b 16 8;
  lock_owner = number b 24 8;
  atime = signed w64 b 32;
  mtime = signed w64 b 40;
  ctime = signed w64 b 48;
  atimensec = number b 56 4;
  mtimensec = number b 60 4;
  ctimensec = number b 64 4;
  mode = number b 68 4;
  uid = number b 76 4;
  gid = number b 80 4;
})

-- MKNOD: mode4 rdev4 umask4 _4 (`struct fuse_mknod_in`)
abbrev pub mknod_at : List ℕ → Option (MkNodArguments × List ℕ)
mknod_at = fixed 16 (λ b. record { mode = number b 0 4; rdev = number b 4 4; umask = number b 8 4 })

-- MKDIR: mode4 umask4 (`struct fuse_mkdir_in`)
abbrev pub mkdir_at : List ℕ → Option (MkDirArguments × List ℕ)
mkdir_at = fixed 8 (λ b. record { mode = number b 0 4; umask = number b 4 4 })

-- RENAME2: newdir8 flags4 _4 (`struct fuse_rename2_in`)
abbrev pub rename2_at : List ℕ → Option (Rename2Arguments × List ℕ)
rename2_at = fixed 16 (λ b. record { newdir = number b 0 8; flags = number b 8 4 })

-- ACCESS: mask4i _4 (`struct fuse_access_in`)
abbrev pub access_at : List ℕ → Option (AccessArguments × List ℕ)
access_at = fixed 8 (λ b. record { mask = signed w32 b 0 })

-- SETXATTR: size4 flags4i (the front of `struct fuse_setxattr_in`, `FUSE_COMPAT_SETXATTR_IN_SIZE`); what it lacks is zero
abbrev pub setxattr_at : List ℕ → Option (SetXAttrArguments × List ℕ)
setxattr_at = fixed 8 (λ b. record { size = number b 0 4; flags = signed w32 b 4; setxattr_flags = 0 })

-- SETXATTR where FUSE_SETXATTR_EXT was granted: size4 flags4i setxattr_flags4 _4 (`struct fuse_setxattr_in`)
abbrev pub setxattr_ext_at : List ℕ → Option (SetXAttrArguments × List ℕ)
setxattr_ext_at = fixed 16 (λ b. record { size = number b 0 4; flags = signed w32 b 4; setxattr_flags = number b 8 4 })

-- GETXATTR and LISTXATTR: size4 _4 (`struct fuse_getxattr_in`)
abbrev pub getxattr_at : List ℕ → Option (GetXAttrArguments × List ℕ)
getxattr_at = fixed 8 (λ b. record { size = number b 0 4 })

-- BATCH_FORGET: count4 _4 (`struct fuse_batch_forget_in`)
abbrev pub batch_forget_at : List ℕ → Option (BatchForgetArguments × List ℕ)
batch_forget_at = fixed 8 (λ b. record { count = number b 0 4 })
