use Rattle.std.proofs.Common.{◌≡◌, ◌++◌, drop, take}
use Rattle.fuse_core.specs.Marks.{let_go, still_held}
use Rattle.fuse_core.proofs.marks.first_held.Given as goal

-- no frame before the place has the tag
abbrev pub invariant-loop-late : goal.invariant-loop-late
invariant-loop-late l =
    (l.place ≡ l.late-index) × (let_go l.tag l.held ≡ let_go l.tag (drop l.place l.held))
    × (take l.place l.held ++ still_held l.tag (drop l.place l.held) ≡ still_held l.tag l.held)
