use Rattle.std.proofs.Common.{◌≡◌, ◌≤◌, take}
use Rattle.std.specs.List.{count_by}
use Rattle.fuse_core.specs.Marks.{tag_of}
use Rattle.fuse_core.specs.AreMatched.{same}
use Rattle.fuse_core.proofs.marks.count_marks.Given as goal

-- those so far are counted
abbrev pub invariant-loop-mark : goal.invariant-loop-mark
invariant-loop-mark l = (l.count ≡ count_by (λ x. same (tag_of x) l.tag) (take l.mark-index l.marks)) × (l.count ≤ l.mark-index)
