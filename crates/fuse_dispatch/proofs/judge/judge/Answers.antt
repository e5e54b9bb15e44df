use Rattle.std.proofs.Common.{◌∙◌, sym}
use Rattle.fuse_dispatch.proofs.Judging.{decided-call, decided-forget}
use Rattle.fuse_dispatch.proofs.judge.judge.Goals as goal

pub returns-then-is_forget-clause-decides : goal.returns-then-is_forget-clause-decides
returns-then-is_forget-clause-decides c = decided-forget c.args.operation (sym c.is_forget.ensures ∙ c.if-is_forget.true)

pub returns-in_default-operation-clause-decides : goal.returns-in_default-operation-clause-decides
returns-in_default-operation-clause-decides c =
    decided-call c.args.operation (sym c.fixed_error.ensures ∙ c.in_default.is) (sym c.is_forget.ensures ∙ c.if-is_forget.false)
    c.in_default-operation.not-Destroy
