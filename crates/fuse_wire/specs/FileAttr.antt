-- Attributes as filesystems give them that keep no owner and no times.
use Rattle.std.specs.Prelude.{ℕ, ◌+◌, ◌/◌, ◌%◌, pos, min}
use Rattle.fuse_wire.specs.declared.file_attr.FileAttr.{FileAttr}
use Rattle.fuse_wire.specs.declared.file_attr.FileType.{FileType}

-- attributes of a node that belongs to root, whose times are 0, and whose contents take blocks of 512 bytes
abbrev pub root_attr : (ino : ℕ) → FileType → (perm nlink size : ℕ) → FileAttr
root_attr ino kind perm nlink size = record {
  ino = record { 0 = ino };
  size = size;
  blocks = size / 512 + min (size % 512) 1;
  atime = record { 0 = pos 0 };
  mtime = record { 0 = pos 0 };
  ctime = record { 0 = pos 0 };
  crtime = record { 0 = pos 0 };
  kind = kind;
  perm = perm;
  nlink = nlink;
  uid = 0;
  gid = 0;
  rdev = 0;
  blksize = 512;
  flags = 0;
}
