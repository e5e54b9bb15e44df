-- What is asked, as plain data.
use Rattle.std.specs.Prelude.{ℕ, Bool, List, Option, None, Some}
use Rattle.fuse_wire.specs.declared.newtypes.INodeNo.{INodeNo}
use Rattle.fuse_args.specs.declared.fixed.InitArguments.{InitArguments}
use Rattle.fuse_args.specs.declared.fixed.devices.BMapArguments.{BMapArguments}
use Rattle.fuse_args.specs.declared.fixed.devices.GetLkArguments.{GetLkArguments}
use Rattle.fuse_args.specs.declared.fixed.devices.IoCtlArguments.{IoCtlArguments}
use Rattle.fuse_args.specs.declared.fixed.devices.PollArguments.{PollArguments}
use Rattle.fuse_args.specs.declared.fixed.files.CopyFileRangeArguments.{CopyFileRangeArguments}
use Rattle.fuse_args.specs.declared.fixed.files.CreateArguments.{CreateArguments}
use Rattle.fuse_args.specs.declared.fixed.files.FAllocateArguments.{FAllocateArguments}
use Rattle.fuse_args.specs.declared.fixed.files.FSyncArguments.{FSyncArguments}
use Rattle.fuse_args.specs.declared.fixed.files.FlushArguments.{FlushArguments}
use Rattle.fuse_args.specs.declared.fixed.files.LseekArguments.{LseekArguments}
use Rattle.fuse_args.specs.declared.fixed.files.OpenArguments.{OpenArguments}
use Rattle.fuse_args.specs.declared.fixed.files.ReadArguments.{ReadArguments}
use Rattle.fuse_args.specs.declared.fixed.files.ReleaseArguments.{ReleaseArguments}
use Rattle.fuse_args.specs.declared.fixed.files.WriteArguments.{WriteArguments}
use Rattle.fuse_args.specs.declared.fixed.nodes.AccessArguments.{AccessArguments}
use Rattle.fuse_args.specs.declared.fixed.nodes.GetAttrArguments.{GetAttrArguments}
use Rattle.fuse_args.specs.declared.fixed.nodes.GetXAttrArguments.{GetXAttrArguments}
use Rattle.fuse_args.specs.declared.fixed.nodes.MkDirArguments.{MkDirArguments}
use Rattle.fuse_args.specs.declared.fixed.nodes.MkNodArguments.{MkNodArguments}
use Rattle.fuse_args.specs.declared.fixed.nodes.Rename2Arguments.{Rename2Arguments}
use Rattle.fuse_args.specs.declared.fixed.nodes.SetAttrArguments.{SetAttrArguments}
use Rattle.fuse_args.specs.declared.fixed.nodes.SetXAttrArguments.{SetXAttrArguments}
use Rattle.fuse_request.specs.InitOperation.{arguments_of}
use Rattle.fuse_request.specs.declared.operation.Operation.{Operation}
use Rattle.fuse_request.specs.declared.operation.Operation.TheVariants as code

-- an operation with its arguments, as plain data
pub data Op : Type 0 where
  Lookup : (name : List ℕ) → Op
  Forget : (nlookup : ℕ) → Op
  GetAttr : (arguments : GetAttrArguments) → Op
  SetAttr : (arguments : SetAttrArguments) → Op
  ReadLink : Op
  SymLink : (link_name target : List ℕ) → Op
  MkNod : (arguments : MkNodArguments) (name : List ℕ) → Op
  MkDir : (arguments : MkDirArguments) (name : List ℕ) → Op
  Unlink : (name : List ℕ) → Op
  RmDir : (name : List ℕ) → Op
  Rename : (newdir : ℕ) (old_name new_name : List ℕ) → Op
  Link : (oldnodeid : ℕ) (new_name : List ℕ) → Op
  Open : (arguments : OpenArguments) → Op
  Read : (arguments : ReadArguments) → Op
  Write : (arguments : WriteArguments) (written : List ℕ) → Op
  StatFs : Op
  Release : (arguments : ReleaseArguments) → Op
  FSync : (arguments : FSyncArguments) → Op
  SetXAttr : (arguments : SetXAttrArguments) (name value : List ℕ) → Op
  GetXAttr : (arguments : GetXAttrArguments) (name : List ℕ) → Op
  ListXAttr : (arguments : GetXAttrArguments) → Op
  RemoveXAttr : (name : List ℕ) → Op
  Flush : (arguments : FlushArguments) → Op
  Init : (arguments : InitArguments) → Op
  OpenDir : (arguments : OpenArguments) → Op
  ReadDir : (arguments : ReadArguments) → Op
  ReleaseDir : (arguments : ReleaseArguments) → Op
  FSyncDir : (arguments : FSyncArguments) → Op
  GetLk : (arguments : GetLkArguments) → Op
  SetLk : (arguments : GetLkArguments) (sleep : Bool) → Op
  Access : (arguments : AccessArguments) → Op
  Create : (arguments : CreateArguments) (name : List ℕ) → Op
  Interrupt : (unique : ℕ) → Op
  BMap : (arguments : BMapArguments) → Op
  Destroy : Op
  IoCtl : (arguments : IoCtlArguments) (in_bytes : List ℕ) → Op
  Poll : (arguments : PollArguments) → Op
  NotifyReply : Op
  BatchForget : (rows : List ℕ) → Op
  FAllocate : (arguments : FAllocateArguments) → Op
  ReadDirPlus : (arguments : ReadArguments) → Op
  Rename2 : (arguments : Rename2Arguments) (old_name new_name : List ℕ) → Op
  Lseek : (arguments : LseekArguments) → Op
  CopyFileRange : (arguments : CopyFileRangeArguments) → Op
  CuseInit : Op

-- an operation of the code, as plain data
abbrev pub plain : Operation → Op
plain (code.Lookup name) = Lookup name
plain (code.Forget nlookup) = Forget nlookup
plain (code.GetAttr arguments) = GetAttr arguments
plain (code.SetAttr arguments) = SetAttr arguments
plain (code.ReadLink nothing) = ReadLink
plain (code.SymLink made) = SymLink made.link_name made.target
plain (code.MkNod made) = MkNod made.arguments made.name
plain (code.MkDir made) = MkDir made.arguments made.name
plain (code.Unlink name) = Unlink name
plain (code.RmDir name) = RmDir name
plain (code.Rename moved) = Rename moved.newdir moved.old_name moved.new_name
plain (code.Link linked) = Link linked.oldnodeid linked.new_name
plain (code.Open arguments) = Open arguments
plain (code.Read arguments) = Read arguments
plain (code.Write written) = Write written.arguments written.bytes
plain (code.StatFs nothing) = StatFs
plain (code.Release arguments) = Release arguments
plain (code.FSync arguments) = FSync arguments
plain (code.SetXAttr set) = SetXAttr set.arguments set.name set.value
plain (code.GetXAttr asked) = GetXAttr asked.arguments asked.name
plain (code.ListXAttr arguments) = ListXAttr arguments
plain (code.RemoveXAttr name) = RemoveXAttr name
plain (code.Flush arguments) = Flush arguments
plain (code.Init init) = Init (arguments_of init)
plain (code.OpenDir arguments) = OpenDir arguments
plain (code.ReadDir arguments) = ReadDir arguments
plain (code.ReleaseDir arguments) = ReleaseDir arguments
plain (code.FSyncDir arguments) = FSyncDir arguments
plain (code.GetLk asked) = GetLk asked.arguments
plain (code.SetLk asked) = SetLk asked.arguments asked.sleep
plain (code.Access arguments) = Access arguments
plain (code.Create made) = Create made.arguments made.name
plain (code.Interrupt unique) = Interrupt unique
plain (code.BMap arguments) = BMap arguments
plain (code.Destroy nothing) = Destroy
plain (code.IoCtl command) = IoCtl command.arguments command.bytes
plain (code.Poll arguments) = Poll arguments
plain (code.NotifyReply nothing) = NotifyReply
plain (code.BatchForget rows) = BatchForget rows
plain (code.FAllocate arguments) = FAllocate arguments
plain (code.ReadDirPlus arguments) = ReadDirPlus arguments
plain (code.Rename2 moved) = Rename2 moved.arguments moved.old_name moved.new_name
plain (code.Lseek arguments) = Lseek arguments
plain (code.CopyFileRange copied) = CopyFileRange copied.arguments
plain (code.CuseInit nothing) = CuseInit

-- the node that an operation of the code keeps, where one of its places is in that node or is that node
abbrev pub kept_node : Operation → Option INodeNo
kept_node (code.Rename moved) = Some moved.node
kept_node (code.Rename2 moved) = Some moved.node
kept_node (code.Link linked) = Some linked.node
kept_node (code.CopyFileRange copied) = Some copied.node
kept_node operation = None
