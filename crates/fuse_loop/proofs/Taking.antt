-- What is taken from a source, after calls that gave nothing.
use Rattle.std.proofs.Common.{◌≡◌, ◌≤◌, ℕ, List, [], ◌++◌, Option, sym, ◌∙◌, subst, arith, IfSome, ap, append_assoc, refl}
use Rattle.std.specs.Prelude.{Some, None, option_map}
use Rattle.fuse_wire.specs.Source.{SourceState, Takes, NothingLeft, SourceFailed}
use Rattle.fuse_wire.proofs.Options.{option_map-front_none}
use Rattle.fuse_wire.proofs.Faults.{Rose-after}
use Rattle.fuse_loop.specs.Progress.{Begins}

-- nothing is left after a call that took nothing of nothing
pub NothingLeft-after : (a b : SourceState) → NothingLeft a → Takes [] a b → NothingLeft b
NothingLeft-after a b none takes =
    subst (λ (o : Option (List (List ℕ))). IfSome o (λ left. left ≡ [])) (takes.turns ∙ sym (option_map-front_none b.turns)) none

-- a failure after calls that did not fail
pub SourceFailed-after : (a b c : SourceState) → a.faults ≤ b.faults → SourceFailed b c → SourceFailed a c
SourceFailed-after a b c below failed = (omega (arith, below, failed.0), Rose-after a.faults b.faults c.faults below failed.1)

-- the turns that there were begin with those that were taken, and then with what the rest begins with
pub Begins-after : (xs ys : List (List ℕ)) (a b : SourceState) → Takes xs a b → Begins ys b → Begins (xs ++ ys) a
Begins-after xs ys a b takes = after b.turns a.turns takes.turns where
  after : (left all : Option (List (List ℕ))) → all ≡ option_map (λ left. xs ++ left) left
      → IfSome left (λ all. (rest : List (List ℕ)) × (all ≡ ys ++ rest))
      → IfSome all (λ all. (rest : List (List ℕ)) × (all ≡ (xs ++ ys) ++ rest))
  after None None e h = tt
  after None (Some all) e h = absurd (cc)
  after (Some left) None e h = tt
  after (Some left) (Some all) e h =
      (h.0, same all (xs ++ left) e ∙ (ap (λ (y : List (List ℕ)). xs ++ y) h.1 ∙ sym (append_assoc xs ys h.0))) where
        same : (x y : List (List ℕ)) → Some x ≡ Some y → x ≡ y
        same x y h = cc

-- the turns that there were begin with those that were taken
pub Begins-from_takes : (turns : List (List ℕ)) (a b : SourceState) → Takes turns a b → Begins turns a
Begins-from_takes turns a b takes = begins b.turns a.turns takes.turns where
  begins : (left all : Option (List (List ℕ))) → all ≡ option_map (λ left. turns ++ left) left
      → IfSome all (λ all. (rest : List (List ℕ)) × (all ≡ turns ++ rest))
  begins None None e = tt
  begins None (Some all) e = absurd (cc)
  begins (Some left) None e = tt
  begins (Some left) (Some all) e = (left, some_same all (turns ++ left) e) where
    some_same : (x y : List (List ℕ)) → Some x ≡ Some y → x ≡ y
    some_same x y h = cc

-- and with none
pub Begins-none : (s : SourceState) → Begins [] s
Begins-none s = begins s.turns where
  begins : (all : Option (List (List ℕ))) → IfSome all (λ all. (rest : List (List ℕ)) × (all ≡ [] ++ rest))
  begins None = tt
  begins (Some all) = (all, refl)
