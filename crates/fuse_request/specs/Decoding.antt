-- What a message asks, by its opcode and body (`enum fuse_opcode` of `fuse.h`, and the struct of each), under the capabilities that
-- the handshake granted.
use Rattle.std.specs.Prelude.{◌≡◌, ◌==◌, ⊤, ℕ, true, false, List, Option, None, Some, Result, Ok, Err}
use Rattle.std.specs.Prelude.{IfSome, nat_lt, if◌then◌else◌}
use Rattle.fuse_wire.specs.declared.newtypes.INodeNo.{INodeNo}
use Rattle.fuse_args.specs.Arguments.{at_least, cuse_init_at, exactly, init_at, name_at, rows_at, u64_first}
use Rattle.fuse_args.specs.DeviceParts.{bmap_at, getlk_at, ioctl_at, poll_at}
use Rattle.fuse_args.specs.FileParts.{copy_file_range_at, create_at, fallocate_at, flush_at, fsync_at, lseek_at}
use Rattle.fuse_args.specs.FileParts.{open_at, read_at, release_at, write_at}
use Rattle.fuse_args.specs.NodeParts.{access_at, batch_forget_at, getattr_at, getxattr_at, mkdir_at, mknod_at}
use Rattle.fuse_args.specs.NodeParts.{rename2_at, setattr_at, setxattr_at, setxattr_ext_at}
use Rattle.fuse_args.specs.declared.fixed.nodes.SetXAttrArguments.{SetXAttrArguments}
use Rattle.fuse_header.specs.Opcode.{CUSE_INIT, FUSE_ACCESS, FUSE_BATCH_FORGET, FUSE_BMAP, FUSE_COPY_FILE_RANGE}
use Rattle.fuse_header.specs.Opcode.{FUSE_CREATE, FUSE_DESTROY, FUSE_FALLOCATE, FUSE_FLUSH, FUSE_FORGET, FUSE_FSYNC}
use Rattle.fuse_header.specs.Opcode.{FUSE_FSYNCDIR, FUSE_GETATTR, FUSE_GETLK, FUSE_GETXATTR, FUSE_INIT}
use Rattle.fuse_header.specs.Opcode.{FUSE_INTERRUPT, FUSE_IOCTL, FUSE_LINK, FUSE_LISTXATTR, FUSE_LOOKUP, FUSE_LSEEK}
use Rattle.fuse_header.specs.Opcode.{FUSE_MKDIR, FUSE_MKNOD, FUSE_NOTIFY_REPLY, FUSE_OPEN, FUSE_OPENDIR, FUSE_POLL}
use Rattle.fuse_header.specs.Opcode.{FUSE_READ, FUSE_READDIR, FUSE_READDIRPLUS, FUSE_READLINK, FUSE_RELEASE}
use Rattle.fuse_header.specs.Opcode.{FUSE_RELEASEDIR, FUSE_REMOVEXATTR, FUSE_RENAME, FUSE_RENAME2, FUSE_RMDIR}
use Rattle.fuse_header.specs.Opcode.{FUSE_SETATTR, FUSE_SETLK, FUSE_SETLKW, FUSE_SETXATTR, FUSE_STATFS, FUSE_SYMLINK}
use Rattle.fuse_header.specs.Opcode.{FUSE_UNLINK, FUSE_WRITE}
use Rattle.fuse_header.specs.declared.error.RequestError.{RequestError}
use Rattle.fuse_header.specs.declared.error.RequestError.TheVariants.{UnknownOperation, InsufficientData}
use Rattle.fuse_wire.specs.Flags.{FUSE_SETXATTR_EXT}
use Rattle.fuse_request.specs.Fields.{has_flag}
use Rattle.fuse_request.specs.declared.operation.Operation.{Operation}
use Rattle.fuse_request.specs.Operation.{Op, kept_node, plain}
use Rattle.fuse_request.specs.Operation.Op.{Lookup, Forget, GetAttr, SetAttr, ReadLink, SymLink, MkNod, MkDir}
use Rattle.fuse_request.specs.Operation.Op.{Unlink, RmDir, Rename, Link, Open, Read, Write, StatFs, Release, FSync}
use Rattle.fuse_request.specs.Operation.Op.{SetXAttr, GetXAttr, ListXAttr, RemoveXAttr, Flush, Init, OpenDir}
use Rattle.fuse_request.specs.Operation.Op.{ReadDir, ReleaseDir, FSyncDir, GetLk, SetLk, Access, Create, Interrupt}
use Rattle.fuse_request.specs.Operation.Op.{BMap, Destroy, IoCtl, Poll, NotifyReply, BatchForget, FAllocate}
use Rattle.fuse_request.specs.Operation.Op.{ReadDirPlus, Rename2, Lseek, CopyFileRange, CuseInit}

-- an operation of the part at the front of a body; a part that is cut short is no operation
abbrev pub taking : {X : Type 0} → Option (X × List ℕ) → (X → Op) → Result Op RequestError
taking None make = Err InsufficientData
taking (Some front) make = Ok (make front.0)

-- what is decoded of that part and of the bytes after it
abbrev pub after : {X : Type 0} → Option (X × List ℕ) → (X → List ℕ → Result Op RequestError) → Result Op RequestError
after None go = Err InsufficientData
after (Some front) go = go front.0 front.1

-- an operation of that part and of the name after it
abbrev pub once_named : {X : Type 0} → Option (X × List ℕ) → (X → List ℕ → Op) → Result Op RequestError
once_named part make = after part (λ front rest. taking (name_at rest) (λ name. make front name))

-- an operation of that part and of the two names after it
abbrev pub twice_named : {X : Type 0} → Option (X × List ℕ) → (X → List ℕ → List ℕ → Op) → Result Op RequestError
twice_named part make = after part (λ front rest. once_named (name_at rest) (λ name other. make front name other))

-- an operation of that part, and of a name and a value after it, which is as long as the part says
abbrev pub valued : Option (SetXAttrArguments × List ℕ) → (SetXAttrArguments → List ℕ → List ℕ → Op)
    → Result Op RequestError
valued part make = after part (λ front rest.
    after (name_at rest) (λ name bytes. taking (exactly front.size bytes) (λ value. make front name value)))

-- what the opcodes from LOOKUP to LINK ask
unfoldable pub lookup_to_link : ℕ → List ℕ → Result Op RequestError
lookup_to_link opcode body =
    if opcode == FUSE_LOOKUP then taking (name_at body) (λ name. Lookup name)
    else if opcode == FUSE_FORGET then taking (u64_first body) (λ nlookup. Forget nlookup)
    else if opcode == FUSE_GETATTR then taking (getattr_at body) (λ getattr. GetAttr getattr)
    else if opcode == FUSE_SETATTR then taking (setattr_at body) (λ setattr. SetAttr setattr)
    else if opcode == FUSE_READLINK then Ok ReadLink
    else if opcode == FUSE_SYMLINK then once_named (name_at body) (λ link_name target. SymLink link_name target)
    else if opcode == FUSE_MKNOD then once_named (mknod_at body) (λ mknod name. MkNod mknod name)
    else if opcode == FUSE_MKDIR then once_named (mkdir_at body) (λ mkdir name. MkDir mkdir name)
    else if opcode == FUSE_UNLINK then taking (name_at body) (λ name. Unlink name)
    else if opcode == FUSE_RMDIR then taking (name_at body) (λ name. RmDir name)
    else if opcode == FUSE_RENAME then twice_named (u64_first body) (λ newdir old_name new_name. Rename newdir old_name new_name)
    else if opcode == FUSE_LINK then once_named (u64_first body) (λ oldnodeid name. Link oldnodeid name)
    else Err (UnknownOperation opcode)

-- the fixed part of SETXATTR, which is longer where FUSE_SETXATTR_EXT was granted
abbrev pub setxattr_by : (granted : ℕ) → List ℕ → Option (SetXAttrArguments × List ℕ)
setxattr_by granted body = if has_flag FUSE_SETXATTR_EXT granted then setxattr_ext_at body else setxattr_at body

-- what the opcodes from OPEN to FLUSH ask
unfoldable pub open_to_flush : (granted opcode : ℕ) → List ℕ → Result Op RequestError
open_to_flush granted opcode body =
    if opcode == FUSE_OPEN then taking (open_at body) (λ opening. Open opening)
    else if opcode == FUSE_READ then taking (read_at body) (λ read. Read read)
    else if opcode == FUSE_WRITE then after (write_at body) (λ write rest. taking (exactly write.size rest) (λ written. Write write written))
    else if opcode == FUSE_STATFS then Ok StatFs
    else if opcode == FUSE_RELEASE then taking (release_at body) (λ release. Release release)
    else if opcode == FUSE_FSYNC then taking (fsync_at body) (λ fsync. FSync fsync)
    else if opcode == FUSE_SETXATTR then valued (setxattr_by granted body) (λ setxattr name value. SetXAttr setxattr name value)
    else if opcode == FUSE_GETXATTR then once_named (getxattr_at body) (λ getxattr name. GetXAttr getxattr name)
    else if opcode == FUSE_LISTXATTR then taking (getxattr_at body) (λ listxattr. ListXAttr listxattr)
    else if opcode == FUSE_REMOVEXATTR then taking (name_at body) (λ name. RemoveXAttr name)
    else if opcode == FUSE_FLUSH then taking (flush_at body) (λ flush. Flush flush)
    else Err (UnknownOperation opcode)

-- what the opcodes from INIT to BMAP ask
unfoldable pub init_to_bmap : ℕ → List ℕ → Result Op RequestError
init_to_bmap opcode body =
    if opcode == FUSE_INIT then taking (init_at body) (λ init. Init init)
    else if opcode == FUSE_OPENDIR then taking (open_at body) (λ opendir. OpenDir opendir)
    else if opcode == FUSE_READDIR then taking (read_at body) (λ readdir. ReadDir readdir)
    else if opcode == FUSE_RELEASEDIR then taking (release_at body) (λ releasedir. ReleaseDir releasedir)
    else if opcode == FUSE_FSYNCDIR then taking (fsync_at body) (λ fsyncdir. FSyncDir fsyncdir)
    else if opcode == FUSE_GETLK then taking (getlk_at body) (λ getlk. GetLk getlk)
    else if opcode == FUSE_SETLK then taking (getlk_at body) (λ setlk. SetLk setlk false)
    else if opcode == FUSE_SETLKW then taking (getlk_at body) (λ setlk. SetLk setlk true)
    else if opcode == FUSE_ACCESS then taking (access_at body) (λ access. Access access)
    else if opcode == FUSE_CREATE then once_named (create_at body) (λ create name. Create create name)
    else if opcode == FUSE_INTERRUPT then taking (u64_first body) (λ unique. Interrupt unique)
    else if opcode == FUSE_BMAP then taking (bmap_at body) (λ bmap. BMap bmap)
    else Err (UnknownOperation opcode)

-- what the opcodes from DESTROY on ask
unfoldable pub destroy_to_cuse_init : ℕ → List ℕ → Result Op RequestError
destroy_to_cuse_init opcode body =
    if opcode == FUSE_DESTROY then Ok Destroy
    else if opcode == FUSE_IOCTL then after (ioctl_at body) (λ ioctl rest. taking (at_least ioctl.in_size rest) (λ in_bytes. IoCtl ioctl in_bytes))
    else if opcode == FUSE_POLL then taking (poll_at body) (λ poll. Poll poll)
    else if opcode == FUSE_NOTIFY_REPLY then Ok NotifyReply
    else if opcode == FUSE_BATCH_FORGET then after (batch_forget_at body) (λ forgets rest. taking (rows_at forgets.count rest) (λ rows. BatchForget rows))
    else if opcode == FUSE_FALLOCATE then taking (fallocate_at body) (λ fallocate. FAllocate fallocate)
    else if opcode == FUSE_READDIRPLUS then taking (read_at body) (λ readdirplus. ReadDirPlus readdirplus)
    else if opcode == FUSE_RENAME2 then twice_named (rename2_at body) (λ rename old_name new_name. Rename2 rename old_name new_name)
    else if opcode == FUSE_LSEEK then taking (lseek_at body) (λ lseek. Lseek lseek)
    else if opcode == FUSE_COPY_FILE_RANGE then taking (copy_file_range_at body) (λ copy. CopyFileRange copy)
    else if opcode == CUSE_INIT then taking (cuse_init_at body) (λ nothing. CuseInit)
    else Err (UnknownOperation opcode)

-- what an opcode asks of its body under these capabilities
abbrev pub operation : (granted opcode : ℕ) → List ℕ → Result Op RequestError
operation granted opcode body =
    if nat_lt opcode FUSE_OPEN then lookup_to_link opcode body
    else if nat_lt opcode FUSE_INIT then open_to_flush granted opcode body
    else if nat_lt opcode FUSE_DESTROY then init_to_bmap opcode body
    else destroy_to_cuse_init opcode body

-- the code decodes what the definition does, and refuses what it refuses
abbrev pub Is : Result Operation RequestError → Result Op RequestError → Type 0
Is (Ok found) expected = expected ≡ Ok (plain found)
Is (Err e) expected = expected ≡ Err e

-- an operation that keeps a node keeps this one
abbrev pub Keeps : Result Operation RequestError → INodeNo → Type 0
Keeps (Ok found) node = IfSome (kept_node found) (λ kept. kept ≡ node)
Keeps (Err e) node = ⊤
