-- What a filesystem is asked, as plain data: numbers and bytes, with no trace of how they stand in a message.
use Rattle.std.specs.Prelude.{ℕ, ℤ, Bool, List, Option, None, Some, option_map}
use Rattle.std.specs.Int.{w64, cast_unsigned}
use Rattle.fuse_wire.specs.declared.newtypes.FileHandle.{FileHandle}
use Rattle.fuse_wire.specs.declared.newtypes.LockOwner.{LockOwner}
use Rattle.fuse_wire.specs.declared.time.SystemTime.{SystemTime}
use Rattle.fuse_wire.specs.declared.time.TimeOrNow.{TimeOrNow}
use Rattle.fuse_request.specs.Fields.{contents_alone, getattr_handle, flushes, read_lock_owner, release_lock_owner, write_lock_owner}
use Rattle.fuse_request.specs.Forgets.{rows_in}
use Rattle.fuse_request.specs.Operation.{Op}
use Rattle.fuse_request.specs.SetAttr.{new_atime, new_ctime, file_of, new_gid, new_mode, new_mtime, new_size, new_uid}

-- one call of a filesystem, with its arguments in their order; a row of `BatchForget` has the arguments of a `Forget`
pub data Call : Type 0 where
  Lookup : (parent : ℕ) (name : List ℕ) → Call
  Forget : (ino nlookup : ℕ) → Call
  GetAttr : (ino : ℕ) (fh : Option ℕ) → Call
  SetAttr : (ino : ℕ) (mode uid gid size : Option ℕ) (atime mtime : Option TimeOrNow) (ctime : Option SystemTime)
      (fh : Option ℕ) (crtime chgtime bkuptime : Option SystemTime) (flags : Option ℕ) → Call
  ReadLink : (ino : ℕ) → Call
  SymLink : (parent : ℕ) (link_name target : List ℕ) → Call
  MkNod : (parent : ℕ) (name : List ℕ) (mode umask rdev : ℕ) → Call
  MkDir : (parent : ℕ) (name : List ℕ) (mode umask : ℕ) → Call
  Unlink : (parent : ℕ) (name : List ℕ) → Call
  RmDir : (parent : ℕ) (name : List ℕ) → Call
  Rename : (parent : ℕ) (name : List ℕ) (newparent : ℕ) (newname : List ℕ) (flags : ℕ) → Call
  Link : (ino newparent : ℕ) (newname : List ℕ) → Call
  Open : (ino : ℕ) (flags : ℤ) → Call
  Read : (ino fh offset size : ℕ) (flags : ℤ) (lock_owner : Option ℕ) → Call
  Write : (ino fh offset : ℕ) (written : List ℕ) (write_flags : ℕ) (flags : ℤ) (lock_owner : Option ℕ) → Call
  StatFs : (ino : ℕ) → Call
  Release : (ino fh : ℕ) (flags : ℤ) (lock_owner : Option ℕ) (flush : Bool) → Call
  FSync : (ino fh : ℕ) (datasync : Bool) → Call
  SetXAttr : (ino : ℕ) (name value : List ℕ) (flags : ℤ) (position setxattr_flags : ℕ) → Call
  GetXAttr : (ino : ℕ) (name : List ℕ) (size : ℕ) → Call
  ListXAttr : (ino size : ℕ) → Call
  RemoveXAttr : (ino : ℕ) (name : List ℕ) → Call
  Flush : (ino fh lock_owner : ℕ) → Call
  OpenDir : (ino : ℕ) (flags : ℤ) → Call
  ReadDir : (ino fh offset size : ℕ) → Call
  ReleaseDir : (ino fh : ℕ) (flags : ℤ) → Call
  FSyncDir : (ino fh : ℕ) (datasync : Bool) → Call
  GetLk : (ino fh lock_owner start end : ℕ) (typ : ℤ) (pid : ℕ) → Call
  SetLk : (ino fh lock_owner start end : ℕ) (typ : ℤ) (pid : ℕ) (sleep : Bool) → Call
  Access : (ino : ℕ) (mask : ℤ) → Call
  Create : (parent : ℕ) (name : List ℕ) (mode umask : ℕ) (flags : ℤ) → Call
  Interrupt : (target : ℕ) → Call
  BMap : (ino blocksize block : ℕ) → Call
  IoCtl : (ino fh flags cmd : ℕ) (in_bytes : List ℕ) (out_size : ℕ) → Call
  Poll : (ino fh kh events flags : ℕ) → Call
  BatchForget : (rows : List (ℕ × ℕ)) → Call
  FAllocate : (ino fh offset length : ℕ) (mode : ℤ) → Call
  ReadDirPlus : (ino fh offset size : ℕ) → Call
  Lseek : (ino fh : ℕ) (offset whence : ℤ) → Call
  CopyFileRange : (ino_in fh_in offset_in ino_out fh_out offset_out len flags : ℕ) → Call

-- the number of an open file, where there is one
abbrev pub handle_number : Option FileHandle → Option ℕ
handle_number = option_map (λ handle. handle.0)

-- the number of an owner of locks, where there is one
abbrev pub owner_number : Option LockOwner → Option ℕ
owner_number = option_map (λ owner. owner.0)

-- a number with a sign as one without: 2 ^ 64 is added to a negative one
abbrev pub unsigned : ℤ → ℕ
unsigned = cast_unsigned w64

-- the call that an operation on a node makes, where it makes one: INIT and DESTROY are the session's own, and NOTIFY_REPLY and
-- CUSE_INIT are refused
abbrev pub call : ℕ → Op → Option Call
call node (Op.Lookup name) = Some (Lookup node name)
call node (Op.Forget nlookup) = Some (Forget node nlookup)
call node (Op.GetAttr a) = Some (GetAttr node (getattr_handle a))
call node (Op.SetAttr a) =
    Some (SetAttr node (new_mode a) (new_uid a) (new_gid a) (new_size a) (new_atime a) (new_mtime a) (new_ctime a) (file_of a)
    None None None None)
call node Op.ReadLink = Some (ReadLink node)
call node (Op.SymLink link_name target) = Some (SymLink node link_name target)
call node (Op.MkNod a name) = Some (MkNod node name a.mode a.umask a.rdev)
call node (Op.MkDir a name) = Some (MkDir node name a.mode a.umask)
call node (Op.Unlink name) = Some (Unlink node name)
call node (Op.RmDir name) = Some (RmDir node name)
call node (Op.Rename newdir old_name new_name) = Some (Rename node old_name newdir new_name 0)
call node (Op.Link oldnodeid new_name) = Some (Link oldnodeid node new_name)
call node (Op.Open a) = Some (Open node a.flags)
call node (Op.Read a) = Some (Read node a.fh a.offset a.size a.flags (read_lock_owner a))
call node (Op.Write a written) = Some (Write node a.fh (unsigned a.offset) written a.write_flags a.flags (write_lock_owner a))
call node Op.StatFs = Some (StatFs node)
call node (Op.Release a) = Some (Release node a.fh a.flags (release_lock_owner a) (flushes a))
call node (Op.FSync a) = Some (FSync node a.fh (contents_alone a))
call node (Op.SetXAttr a name value) = Some (SetXAttr node name value a.flags 0 a.setxattr_flags)
call node (Op.GetXAttr a name) = Some (GetXAttr node name a.size)
call node (Op.ListXAttr a) = Some (ListXAttr node a.size)
call node (Op.RemoveXAttr name) = Some (RemoveXAttr node name)
call node (Op.Flush a) = Some (Flush node a.fh a.lock_owner)
call node (Op.Init a) = None
call node (Op.OpenDir a) = Some (OpenDir node a.flags)
call node (Op.ReadDir a) = Some (ReadDir node a.fh a.offset a.size)
call node (Op.ReleaseDir a) = Some (ReleaseDir node a.fh a.flags)
call node (Op.FSyncDir a) = Some (FSyncDir node a.fh (contents_alone a))
call node (Op.GetLk a) = Some (GetLk node a.fh a.owner a.start a.end a.typ a.pid)
call node (Op.SetLk a sleep) = Some (SetLk node a.fh a.owner a.start a.end a.typ a.pid sleep)
call node (Op.Access a) = Some (Access node a.mask)
call node (Op.Create a name) = Some (Create node name a.mode a.umask a.flags)
call node (Op.Interrupt unique) = Some (Interrupt unique)
call node (Op.BMap a) = Some (BMap node a.blocksize a.block)
call node Op.Destroy = None
call node (Op.IoCtl a in_bytes) = Some (IoCtl node a.fh a.flags a.cmd in_bytes a.out_size)
call node (Op.Poll a) = Some (Poll node a.fh a.kh a.events a.flags)
call node Op.NotifyReply = None
call node (Op.BatchForget rows) = Some (BatchForget (rows_in rows))
call node (Op.FAllocate a) = Some (FAllocate node a.fh a.offset a.length a.mode)
call node (Op.ReadDirPlus a) = Some (ReadDirPlus node a.fh a.offset a.size)
call node (Op.Rename2 a old_name new_name) = Some (Rename node old_name a.newdir new_name a.flags)
call node (Op.Lseek a) = Some (Lseek node a.fh a.offset a.whence)
call node (Op.CopyFileRange a) =
    Some (CopyFileRange node a.fh_in (unsigned a.off_in) a.nodeid_out a.fh_out (unsigned a.off_out) a.len a.flags)
call node Op.CuseInit = None
