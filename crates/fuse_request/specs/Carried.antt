-- What operations carry, as plain data: where it is more than a fixed part, a number or a name, its parts.
use Rattle.std.specs.Prelude.{ℕ, List}
use Rattle.fuse_args.specs.declared.fixed.files.CopyFileRangeArguments.{CopyFileRangeArguments}
use Rattle.fuse_args.specs.declared.fixed.devices.GetLkArguments.{GetLkArguments}
use Rattle.fuse_args.specs.declared.fixed.nodes.Rename2Arguments.{Rename2Arguments}
use Rattle.fuse_args.specs.declared.fixed.nodes.SetXAttrArguments.{SetXAttrArguments}
use Rattle.fuse_wire.specs.declared.newtypes.INodeNo.{INodeNo}

-- MKNOD, MKDIR, CREATE and GETXATTR: a fixed part, and a name
pub record Named (Part : Type 0) : Type 0 where
  pub arguments : Part
  pub name : List ℕ

-- WRITE and IOCTL: a fixed part, and bytes
pub record WithBytes (Part : Type 0) : Type 0 where
  pub arguments : Part
  pub bytes : List ℕ

-- SETXATTR: a fixed part, a name, and a value
pub record NamedValue : Type 0 where
  pub arguments : SetXAttrArguments
  pub name : List ℕ
  pub value : List ℕ

-- SYMLINK: the name of the link, and the path that it leads to
pub record LinkedPath : Type 0 where
  pub link_name : List ℕ
  pub target : List ℕ

-- RENAME: a name in the node of the request, and the directory and the name that it moves to
pub record Moved : Type 0 where
  pub node : INodeNo
  pub newdir : ℕ
  pub old_name : List ℕ
  pub new_name : List ℕ

-- RENAME2: the same, with the directory in its fixed part
pub record MovedByFlags : Type 0 where
  pub node : INodeNo
  pub arguments : Rename2Arguments
  pub old_name : List ℕ
  pub new_name : List ℕ

-- LINK: an inode, and the name that it gets in the node of the request
pub record Linked : Type 0 where
  pub node : INodeNo
  pub oldnodeid : ℕ
  pub new_name : List ℕ

-- COPY_FILE_RANGE: the node of the request, which is read, and a fixed part
pub record CopiedFrom : Type 0 where
  pub node : INodeNo
  pub arguments : CopyFileRangeArguments

-- GETLK, SETLK and SETLKW: a fixed part, and of the latter two whether to wait
pub record Locked (Sleep : Type 0) : Type 0 where
  pub arguments : GetLkArguments
  pub sleep : Sleep
