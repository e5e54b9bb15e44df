-- What a pass knows, and how its own steps change it. Items stand in the order in which it pushed or took them.
use Rattle.std.specs.Prelude.{ℕ, ◌+◌, ◌-◌, List, [], ◌∷◌, ◌++◌}
use Rattle.fuse_line.specs.declared.hand.Hand.{Hand}
use Rattle.fuse_line.specs.declared.hand.Kind.{Kind}
use Rattle.fuse_line.specs.declared.hand.Kind.TheVariants.{First, Inner, Door, Spent}

-- an inner pass is one of those that the first pass counts
abbrev pub inner_of : Kind → ℕ
inner_of Inner = 1
inner_of First = 0
inner_of Door = 0
inner_of Spent = 0

abbrev pub hand : {T : Type 0} → Kind → ℕ → List T → List T → Hand T
hand kind others put taken = record { kind = kind; others = others; put = put; taken = taken }

-- an item more was pushed
abbrev pub with_put : {T : Type 0} → Hand T → T → Hand T
with_put v x = hand v.kind v.others (v.put ++ x ∷ []) v.taken

-- an item more was taken
abbrev pub with_taken : {T : Type 0} → Hand T → T → Hand T
with_taken v x = hand v.kind v.others v.put (v.taken ++ x ∷ [])

-- an inner pass more was split off
abbrev pub with_other : {T : Type 0} → Hand T → Hand T
with_other v = hand v.kind (v.others + 1) v.put v.taken

-- another's items come after its own, and an inner pass is counted back
abbrev pub joined : {T : Type 0} → Hand T → Hand T → Hand T
joined v w = hand v.kind (v.others - inner_of w.kind) (v.put ++ w.put) (v.taken ++ w.taken)
