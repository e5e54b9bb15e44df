use Rattle.std.proofs.Common.{ℕ, drop}
use Rattle.fuse_request.specs.Forgets.{rows_of}
use Rattle.fuse_dispatch.specs.Defaults.{IsMarkAfter, default_mark}
use Rattle.fuse_dispatch.proofs.defaults.batch_forget.Given as goal

-- what comes of the rows that are left comes of all
abbrev pub invariant-loop-place : goal.invariant-loop-place
invariant-loop-place g l =
    goal.F-IsAlwaysCallable g l.forget
    × ((mark : ℕ) → IsMarkAfter (λ f ino nlookup. goal.F-step g f (record { 0 = ino }) nlookup) l.forget (drop l.place (rows_of l.fn.nodes)) l.mark mark
    → IsMarkAfter (λ f ino nlookup. goal.F-step g f (record { 0 = ino }) nlookup) l.fn.forget (rows_of l.fn.nodes) default_mark mark)
