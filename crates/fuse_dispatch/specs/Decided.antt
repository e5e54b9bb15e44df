-- What the code decides of a message, as plain data.
use Rattle.std.specs.Prelude.{◌≡◌, ⊤, ℕ, List, Some, Result, Ok, Err}
use Rattle.fuse_header.specs.Header.{body, header_fields}
use Rattle.fuse_header.specs.declared.header.Header.{Header}
use Rattle.fuse_request.specs.Call.{Call as Asked, call}
use Rattle.fuse_request.specs.Operation.{Op, plain}
use Rattle.fuse_request.specs.declared.operation.Operation.{Operation}
use Rattle.fuse_request.specs.Decoding.{Is, Keeps, operation}
use Rattle.fuse_dispatch.specs.Verdict.{Verdict as Decision}
use Rattle.fuse_dispatch.specs.Verdict.Verdict.{Broken as IsBroken, Ends as IsEnds, Fixed as IsFixed, Forgets, Calls}
use Rattle.fuse_dispatch.specs.declared.decision.Verdict.{Verdict}
use Rattle.fuse_dispatch.specs.declared.decision.Verdict.TheVariants.{Broken, Ends, Fixed, Forget, Call}

-- a verdict in the code, on a message about this node: a forget and a call are the operation that makes it
abbrev pub Decides : (node : ℕ) → Verdict → Decision → Type 0
Decides node (Broken e) v = v ≡ IsBroken e
Decides node Ends v = v ≡ IsEnds
Decides node (Fixed errno) v = v ≡ IsFixed errno
Decides node (Forget op) v = (c : Asked) × (call node (plain op) ≡ Some c) × (v ≡ Forgets c)
Decides node (Call op) v = (c : Asked) × (call node (plain op) ≡ Some c) × (v ≡ Calls c)

-- this operation is what a request of that header and body asks under these capabilities, and keeps its node
abbrev pub IsAskedBy : (granted : ℕ) → Header → List ℕ → Operation → Type 0
IsAskedBy granted h rest op = Is (Ok op) (operation granted h.opcode rest) × Keeps (Ok op) h.nodeid

-- the operation of a forget or a call is what the message asks, whole
abbrev pub AsksFor : Verdict → (granted : ℕ) → List ℕ → Type 0
AsksFor (Forget op) granted m = IsAskedBy granted (header_fields m) (body m) op
AsksFor (Call op) granted m = IsAskedBy granted (header_fields m) (body m) op
AsksFor v granted m = ⊤

-- the operation of a forget or a call is this one
abbrev pub IsOf : Verdict → Operation → Type 0
IsOf (Forget op) operation = op ≡ operation
IsOf (Call op) operation = op ≡ operation
IsOf v operation = ⊤

-- an operation that is served, as plain data
abbrev pub plain_result : Result Operation ℕ → Result Op ℕ
plain_result (Ok operation) = Ok (plain operation)
plain_result (Err errno) = Err errno
