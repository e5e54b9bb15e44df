use Rattle.std.proofs.Common.{◌≡◌, ◌≤◌, take}
use Rattle.std.specs.List.{count_by}
use Rattle.fuse_core.specs.Marks.{late_tag}
use Rattle.fuse_core.specs.AreMatched.{same}
use Rattle.fuse_core.proofs.marks.count_lates.Given as goal

-- those so far are counted
abbrev pub invariant-loop-late : goal.invariant-loop-late
invariant-loop-late l = (l.count ≡ count_by (λ x. same (late_tag x) l.tag) (take l.late-index l.lates)) × (l.count ≤ l.late-index)
