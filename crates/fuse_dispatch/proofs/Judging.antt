-- What the code decides of an operation is its verdict.
use Rattle.std.proofs.Common.{◌≡◌, ◌∙◌, ℕ, true, false, None, Some, ap, refl}
use Rattle.fuse_request.specs.Call.{Call as Asked, call}
use Rattle.fuse_request.specs.Operation.{plain}
use Rattle.fuse_request.specs.declared.operation.Destroy.{Destroy}
use Rattle.fuse_request.specs.declared.operation.Operation.{Operation}
use Rattle.fuse_request.specs.declared.operation.Operation.TheVariants as op
use Rattle.fuse_dispatch.specs.Decided.{Decides}
use Rattle.fuse_dispatch.specs.Verdict.{asking, fixed_error, fixed_or, is_forget, served}
use Rattle.fuse_dispatch.specs.declared.decision.Verdict.TheVariants.{Forget, Call}

-- what leaves a note is a forget
pub decided-forget : (operation : Operation) → is_forget (plain operation) ≡ true
    → (node : ℕ) → Decides node (Forget operation) (served node (plain operation))
decided-forget (op.Forget f) forget node = (_, refl, refl)
decided-forget (op.BatchForget rows) forget node = (_, refl, refl)
decided-forget operation forget node = absurd (let no : ⊥ = cc in no)

-- what has no error that is fixed makes a call, but for DESTROY
made-call : (operation : Operation) → fixed_error (plain operation) ≡ None → ((d : Destroy) → operation ≡ op.Destroy d → ⊥)
    → (node : ℕ) → (c : Asked) × (call node (plain operation) ≡ Some c)
made-call (op.Init init) none other node = absurd (let no : ⊥ = cc in no)
made-call (op.NotifyReply nothing) none other node = absurd (let no : ⊥ = cc in no)
made-call (op.CuseInit nothing) none other node = absurd (let no : ⊥ = cc in no)
made-call (op.Destroy d) none other node = absurd (other d refl)
made-call operation none other node = (_, refl)

-- what has no error that is fixed and leaves no note is a call, but for DESTROY
pub decided-call : (operation : Operation) → fixed_error (plain operation) ≡ None → is_forget (plain operation) ≡ false
    → ((d : Destroy) → operation ≡ op.Destroy d → ⊥) → (node : ℕ) → Decides node (Call operation) (served node (plain operation))
decided-call operation none forget other node =
    let made = made-call operation none other node in (
      made.0,
      made.1,
      ap (λ error. fixed_or error (asking (is_forget (plain operation)) (call node (plain operation)))) none
          ∙ (ap (λ notes. asking notes (call node (plain operation))) forget ∙ ap (λ asked. asking false asked) made.1),
    )
