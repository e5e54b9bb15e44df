-- What a filesystem says of its own answers, over plain data.
use Rattle.std.specs.Prelude.{ℕ, Bool, Result}
use Rattle.fuse_config.specs.Values.{Configuration}
use Rattle.fuse_reply.specs.Answer.{Answer}
use Rattle.fuse_request.specs.Call.{Call}
use Rattle.fuse_header.specs.declared.request.Request.{Request}

-- `init` may give this result to a request, and leave this filesystem and configuration
abbrev pub MayInit : Type 0 → Type 1
MayInit F = F → Request → Configuration → Result (Unit {0}) ℕ → F → Configuration → Type 0

-- a call of a request may have this answer
abbrev pub MayAnswer : Type 0 → Type 1
MayAnswer F = F → Request → Call → Answer → Type 0

-- an interrupt of a request may be honoured, which asks that the request of this id be cut short: it has a note then, and no frame,
-- so that this is no `Answer`
abbrev pub MayHonour : Type 0 → Type 1
MayHonour F = F → Request → (target : ℕ) → Type 0

-- a forget of a request may have this mark
abbrev pub MayNote : Type 0 → Type 1
MayNote F = F → Request → Call → (mark : ℕ) → Type 0

-- `destroy` may leave this filesystem
abbrev pub MayDestroy : Type 0 → Type 1
MayDestroy F = F → F → Type 0

pub record Promise (F : Type 0) : Type 1 where
  pub may_init : MayInit F
  pub may_answer : MayAnswer F
  pub may_honour : MayHonour F
  pub may_note : MayNote F
  pub may_destroy : MayDestroy F
  -- whether a reply may come after its method has returned
  pub defers : Bool
