-- What follows from the rule for whoever reads it.
use Rattle.std.specs.Prelude.{◌≡◌, ◌≢◌, ℕ, Bool, List, [], filter, count_by}
use Rattle.std.specs.List.{Contains}
use mathlib.Core.Option.{some}
use lib.ListN.{get_elem?}
use Rattle.fuse_line.specs.declared.hand.Hand.{Hand}
use Rattle.fuse_line.specs.declared.hand.Kind.TheVariants.{First}
use Rattle.fuse_line.specs.LineRule.{LineRule}
use Rattle.fuse_line.specs.Tells.{IsSettled}

-- while the first pass counts no other, no other has pushed an inner item or taken anything
abbrev pub OthersAreIdle : {T : Type 0} → (T → Bool) → Type 0
OthersAreIdle {T} inner = (items : List T) (views : List (Hand T)) (place other : ℕ) (first hand : Hand T) → LineRule inner items views
    → get_elem? views place ≡ some first → first.kind ≡ First → first.others ≡ 0
    → get_elem? views other ≡ some hand → other ≢ place → (filter inner hand.put ≡ []) × (hand.taken ≡ [])

-- of the inner items that pass any test a settled first pass took as many as it pushed
abbrev pub TookAsOftenAsPushed : {T : Type 0} → (T → Bool) → Type 0
TookAsOftenAsPushed {T} inner = (first : Hand T) → IsSettled inner first → first.kind ≡ First → first.others ≡ 0
    → (test : T → Bool) → count_by test (filter inner first.taken) ≡ count_by test (filter inner first.put)

-- each item that some pass took was pushed by some pass
abbrev pub EachTakenWasPushed : {T : Type 0} → (T → Bool) → Type 0
EachTakenWasPushed {T} inner = (items : List T) (views : List (Hand T)) (taker : ℕ) (hand : Hand T) (item : T) → LineRule inner items views
    → get_elem? views taker ≡ some hand → Contains hand.taken item
    → (pusher : ℕ) × (other : Hand T) × (get_elem? views pusher ≡ some other) × Contains other.put item
