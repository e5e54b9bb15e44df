-- What the first pass knows of the inner items while it counts no other pass: nobody else has pushed one, or taken anything. Other
-- passes know nothing of what the line holds.
use Rattle.std.specs.Prelude.{◌≡◌, Bool, List, ◌++◌, filter}
use Rattle.std.specs.List.Sorted.{IsPermutation}
use Rattle.fuse_line.specs.declared.hand.Hand.{Hand}
use Rattle.fuse_line.specs.declared.hand.Kind.TheVariants.{First}

-- where the line holds these items: it pushed each inner item as often as it took it or the line holds it
abbrev pub Tells : {T : Type 0} → (T → Bool) → Hand T → List T → Type 0
Tells inner v items = v.kind ≡ First → v.others ≡ 0 → IsPermutation (filter inner v.put) (filter inner (v.taken ++ items))

-- where the line holds nothing: it took each inner item as often as it pushed it
abbrev pub IsSettled : {T : Type 0} → (T → Bool) → Hand T → Type 0
IsSettled inner v = v.kind ≡ First → v.others ≡ 0 → IsPermutation (filter inner v.put) (filter inner v.taken)
