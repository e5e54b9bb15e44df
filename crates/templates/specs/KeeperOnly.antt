-- A filesystem over another, in which one user alone takes names away or changes them.
use Rattle.std.specs.Prelude.{◌≡◌, ◌&&◌, ◌==◌, ℕ, Bool, true, false, not}
use Rattle.fuse_header.specs.Asker.{uid_of}
use Rattle.fuse_header.specs.declared.request.Request.{Request}
use Rattle.fuse_request.specs.Call.{Call}
use Rattle.fuse_request.specs.Call.Call.{Rename, RmDir, Unlink}
use Rattle.fuse_reply.specs.Answer.{Answer}
use Rattle.fuse_reply.specs.Answer.Answer.{Error}
use Rattle.fuse_wire.specs.ErrorNumbers.{EACCES}
use Rattle.fuse_dispatch.specs.Promise.{Promise}

-- what the keeper alone may do
abbrev pub is_kept : Call → Bool
is_kept (Unlink parent name) = true
is_kept (RmDir parent name) = true
is_kept (Rename parent name newparent newname flags) = true
is_kept c = false

-- somebody else asks for it
abbrev pub is_denied : (keeper : ℕ) → Request → Call → Bool
is_denied keeper request c = is_kept c && not (uid_of request == keeper)

-- what is denied is EACCES, and all else has an answer of the filesystem below
abbrev pub IsDeniedOr : (denied : Bool) → (below : Type 0) → Answer → Type 0
IsDeniedOr true below a = a ≡ Error EACCES
IsDeniedOr false below a = below

-- the promise of the filesystem below, but for what is denied
abbrev pub promise : {F B : Type 0} → (keeper : F → ℕ) → (below : F → B) → Promise B → Promise F
promise keeper below inner = record {
  may_init = λ old request before result new after.
      (keeper new ≡ keeper old) × inner.may_init (below old) request before result (below new) after;
  may_answer = λ fs request call a. IsDeniedOr (is_denied (keeper fs) request call) (inner.may_answer (below fs) request call a) a;
  may_honour = λ fs request target. inner.may_honour (below fs) request target;
  may_note = λ fs request call mark. inner.may_note (below fs) request call mark;
  may_destroy = λ old new. (keeper new ≡ keeper old) × inner.may_destroy (below old) (below new);
  defers = inner.defers;
}
