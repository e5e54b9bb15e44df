-- What a pass of each kind may do. A door is for those who are not trusted with inner items, and no pass does anything once it
-- is spent.
use Rattle.std.specs.Prelude.{◌≡◌, Bool, false}
use Rattle.fuse_line.specs.declared.hand.Kind.{Kind}
use Rattle.fuse_line.specs.declared.hand.Kind.TheVariants.{First, Inner, Door, Spent}

-- a door pushes no inner item
abbrev pub MayPush : {T : Type 0} → (T → Bool) → Kind → T → Type 0
MayPush inner First x = Unit {0}
MayPush inner Inner x = Unit {0}
MayPush inner Door x = inner x ≡ false
MayPush inner Spent x = ⊥

-- a door takes nothing
abbrev pub MayPop : Kind → Type 0
MayPop First = Unit {0}
MayPop Inner = Unit {0}
MayPop Door = ⊥
MayPop Spent = ⊥

-- doors come off every pass, and inner passes off the first alone
abbrev pub MaySplit : Kind → Bool → Type 0
MaySplit kind door = door ≡ false → kind ≡ First

-- passes of one kind are joined, and inner ones into the first, which is never joined into another
abbrev pub MayJoin : Kind → Kind → Type 0
MayJoin First other = other ≡ Inner
MayJoin Inner other = other ≡ Inner
MayJoin Door other = other ≡ Door
MayJoin Spent other = ⊥
