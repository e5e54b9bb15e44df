-- Which marks of replies that come later the late frames go to.
use Rattle.std.specs.Prelude.{List, [], ◌∷◌, Bool, if◌then◌else◌, map, nat_lt}
use Rattle.fuse_reply.specs.Late.{LateSeen}
use Rattle.fuse_core.specs.AreMatched.{Tag, same, times}
use Rattle.fuse_core.specs.declared.state.Mark.{Mark}

-- the tag of a mark
abbrev pub tag_of : Mark → Tag
tag_of mark = (mark.seq, mark.id.0)

-- the tag of a late frame: it goes to a mark with the same one
abbrev pub late_tag : LateSeen → Tag
late_tag late = (late.seq, late.id)

-- an unused mark of the tag: the test of `HasUnused`
abbrev pub is_unused : Tag → (marks : List Mark) → (sent : List LateSeen) → Bool
is_unused tag marks sent = nat_lt (times tag (map late_tag sent)) (times tag (map tag_of marks))

-- the first of the held frames with this tag, or none
abbrev pub let_go : Tag → (held : List LateSeen) → List LateSeen
let_go tag [] = []
let_go tag (late ∷ held) = if same (late_tag late) tag then late ∷ [] else let_go tag held

-- the held frames without that one
abbrev pub still_held : Tag → (held : List LateSeen) → List LateSeen
still_held tag [] = []
still_held tag (late ∷ held) = if same (late_tag late) tag then held else late ∷ still_held tag held
