-- What the library itself fixes about a message after the handshake, before any filesystem is asked.
use Rattle.std.specs.Prelude.{◌==◌, ◌||◌, ℕ, Bool, true, false, List, [], ◌∷◌, Option, None, Some, Result, Ok, Err, if◌then◌else◌}
use Rattle.fuse_wire.specs.ErrorNumbers.{EIO, EACCES, ENOSYS}
use Rattle.fuse_wire.specs.declared.flags.init_flags.InitFlags.{InitFlags}
use Rattle.fuse_config.specs.declared.session_acl.SessionACL.{SessionACL}
use Rattle.fuse_config.specs.declared.session_acl.SessionACL.TheVariants.{All, RootAndOwner, Owner}
use Rattle.fuse_header.specs.declared.error.RequestError.{RequestError}
use Rattle.fuse_header.specs.declared.header.Header.{Header}
use Rattle.fuse_header.specs.Header.{header, body}
use Rattle.fuse_dispatch.specs.declared.access.AccessRule.{AccessRule}
use Rattle.fuse_dispatch.specs.declared.access.Terms.{Terms}
use Rattle.fuse_request.specs.Call.{Call, call}
use Rattle.fuse_request.specs.Fields.{file_offset, signed_offset, is_unrestricted}
use Rattle.fuse_header.specs.Opcode.{FUSE_FORGET, FUSE_READ, FUSE_WRITE, FUSE_RELEASE, FUSE_FSYNC, FUSE_INIT}
use Rattle.fuse_header.specs.Opcode.{FUSE_READDIR, FUSE_RELEASEDIR, FUSE_FSYNCDIR, FUSE_DESTROY, FUSE_BATCH_FORGET, FUSE_READDIRPLUS}
use Rattle.fuse_request.specs.Operation.{Op}
use Rattle.fuse_request.specs.Decoding.{operation}
use Rattle.fuse_request.specs.Operation.Op.{Forget, Init, Read, Write, NotifyReply, CuseInit, IoCtl, BatchForget, FAllocate}
use Rattle.fuse_request.specs.Operation.Op.{CopyFileRange}

-- these pass whoever sends them: INIT, DESTROY, forgets, and of what goes by an open file reads, writes, fsyncs and releases
abbrev pub passing : List ℕ
passing =
    FUSE_INIT ∷ FUSE_DESTROY ∷ FUSE_FORGET ∷ FUSE_READ ∷ FUSE_WRITE ∷ FUSE_RELEASE ∷ FUSE_FSYNC ∷ FUSE_READDIR ∷ FUSE_RELEASEDIR
    ∷ FUSE_FSYNCDIR ∷ FUSE_BATCH_FORGET ∷ FUSE_READDIRPLUS ∷ []

abbrev pub is_among : ℕ → List ℕ → Bool
is_among x [] = false
is_among x (y ∷ ys) = (x == y) || is_among x ys

abbrev pub always_passes : ℕ → Bool
always_passes opcode = is_among opcode passing

-- whose requests are served
abbrev pub is_served : SessionACL → (owner uid : ℕ) → Bool
is_served All owner uid = true
is_served RootAndOwner owner uid = (uid == 0) || (uid == owner)
is_served Owner owner uid = uid == owner

-- the access rule
abbrev pub admitted : SessionACL → (owner uid opcode : ℕ) → Bool
admitted acl owner uid opcode = always_passes opcode || is_served acl owner uid

pub data Verdict : Type 0 where
  -- it has no good header, and ends the run
  Broken : (e : RequestError) → Verdict
  -- it ends the run, and is answered
  Ends : Verdict
  -- it is answered by this error
  Fixed : (errno : ℕ) → Verdict
  -- it is a forget, which leaves a note
  Forgets : (c : Call) → Verdict
  -- the filesystem is asked this, and its answer is the reply
  Calls : (c : Call) → Verdict

-- an operation that leaves a note, and has no reply
abbrev pub is_forget : Op → Bool
is_forget (Forget nlookup) = true
is_forget (BatchForget rows) = true
is_forget op = false

-- the errors of two numbers, the first before the second
abbrev pub error_in : Result ℕ ℕ → Option ℕ
error_in (Ok number) = None
error_in (Err errno) = Some errno

abbrev pub first_error : Result ℕ ℕ → Result ℕ ℕ → Option ℕ
first_error (Ok number) other = error_in other
first_error (Err errno) other = Some errno

-- the error of an operation that no filesystem is asked: EIO for another INIT; ENOSYS for NOTIFY_REPLY and CUSE_INIT, and for an IOCTL
-- that is not restricted; EINVAL for an offset or a length that is in no file
abbrev pub fixed_error : Op → Option ℕ
fixed_error (Init init) = Some EIO
fixed_error NotifyReply = Some ENOSYS
fixed_error CuseInit = Some ENOSYS
fixed_error (IoCtl ioctl in_bytes) = if is_unrestricted ioctl then Some ENOSYS else None
fixed_error (Read read) = error_in (file_offset read.offset)
fixed_error (Write write written) = error_in (signed_offset write.offset)
fixed_error (FAllocate range) = first_error (file_offset range.offset) (file_offset range.length)
fixed_error (CopyFileRange range) = first_error (signed_offset range.off_in) (signed_offset range.off_out)
fixed_error op = None

-- all else goes to the filesystem; DESTROY alone makes no call, and has its own verdict
abbrev pub asking : (forget : Bool) → Option Call → Verdict
asking forget None = Ends
asking true (Some c) = Forgets c
asking false (Some c) = Calls c

abbrev pub fixed_or : Option ℕ → Verdict → Verdict
fixed_or (Some errno) v = Fixed errno
fixed_or None v = v

-- an operation of a user who is served
abbrev pub served : (node : ℕ) → Op → Verdict
served node op = fixed_or (fixed_error op) (asking (is_forget op) (call node op))

-- the operation that is served, or the error of a request that is not: ENOSYS where it does not decode, EACCES where its user is
-- not served
abbrev pub admitted_operation : AccessRule → Header → Result Op RequestError → Result Op ℕ
admitted_operation rule h (Err e) = Err ENOSYS
admitted_operation rule h (Ok op) = if admitted rule.acl rule.owner h.uid h.opcode then Ok op else Err EACCES

abbrev pub serving : (node : ℕ) → Result Op ℕ → Verdict
serving node (Err errno) = Fixed errno
serving node (Ok op) = served node op

-- the terms of a session that serves these users, and whose handshake granted these capabilities
abbrev pub terms : SessionACL → (owner : ℕ) → (granted : InitFlags) → Terms
terms acl owner granted = record { rule = record { acl = acl; owner = owner }; granted = granted }

-- DESTROY ends the run; any other request decodes under the capabilities that were granted
abbrev pub verdict_by : Terms → Result Header RequestError → (rest : List ℕ) → Verdict
verdict_by agreed (Err e) rest = Broken e
verdict_by agreed (Ok h) rest = if h.opcode == FUSE_DESTROY then Ends
    else serving h.nodeid.0 (admitted_operation agreed.rule h (operation agreed.granted.0 h.opcode rest))

abbrev pub verdict : Terms → List ℕ → Verdict
verdict agreed m = verdict_by agreed (header m) (body m)
