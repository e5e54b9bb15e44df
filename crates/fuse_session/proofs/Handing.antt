-- What comes off a line of one place is what was handed over by it.
use Rattle.std.proofs.Common.{◌≡◌, ◌∙◌, ℕ, true, List, [], ◌∷◌, refl, sym, ap, subst, arith, filter}
use Rattle.std.specs.List.Sorted.{IsPermutation}
use Rattle.std.proofs.lemmas.List.Elements.{All-cons, All-head, All-nil}
use Rattle.std.proofs.lemmas.List.Sorted.{All-permutation, length_permutation}
use Rattle.atomic_table.specs.Seated.{TableId}
use Rattle.fuse_line.specs.Hand.{hand, joined}
use Rattle.fuse_line.specs.Seen.{Seen}
use Rattle.fuse_line.specs.Tells.{IsSettled, Tells}
use Rattle.fuse_line.specs.declared.hand.Hand.{Hand}
use Rattle.fuse_line.specs.declared.hand.Kind.TheVariants.{First, Inner}
use Rattle.fuse_session.specs.Ran.{Opened}
use Rattle.fuse_session.specs.Started.{carried, handing, taking}
use Rattle.fuse_session.specs.declared.carried.Carried.{Carried}

-- a list of one element has no other order
only_one : {X : Type 0} (x y : X) → IsPermutation (x ∷ []) (y ∷ []) → x ≡ y
only_one {X} x y h =
    let P : X → Type 0 = λ z. x ≡ z in
    All-head P y [] (All-permutation P (x ∷ []) (y ∷ []) h (All-cons P x [] refl (All-nil P)))

-- the pass that handed one session over, and knows which one the other took
abbrev pub both_hands : {F S K : Type 0} → (handed found : Opened F S K) → Hand (Carried F S K)
both_hands handed found = joined (hand First 1 (carried handed ∷ []) []) (hand Inner 0 [] (carried found ∷ []))

-- the pass of whoever handed it over has that view once the other's is added to it
pub both_hands-joined : {F S K : Type 0} (handed found : Opened F S K) (line other : TableId) (pass taker : Seen (Carried F S K))
    (last : Hand (Carried F S K)) → last ≡ joined pass.hand taker.hand → pass ≡ handing line (carried handed ∷ [])
    → taker ≡ taking other (carried found ∷ []) → last ≡ both_hands handed found
both_hands-joined {F} {S} {K} handed found line other pass taker last is gave took =
    is ∙ (ap (λ (p : Seen (Carried F S K)). joined p.hand taker.hand) gave
    ∙ ap (λ (t : Seen (Carried F S K)). joined (hand First 1 (carried handed ∷ []) []) t.hand) took)

-- where nothing is left on the line, they are the same
pub handed-found : {F S K : Type 0} (handed found : Opened F S K) (last : Hand (Carried F S K)) → last ≡ both_hands handed found
    → IsSettled (λ _. true) last → found ≡ handed
handed-found {F} {S} {K} handed found last is settled =
    sym (ap (λ (c : Carried F S K). c.runnable) (only_one (carried handed) (carried found)
    (subst (λ (v : Hand (Carried F S K)). IsSettled (λ _. true) v) is settled refl refl)))

-- and nothing is
pub none-left : {F S K : Type 0} (handed found : Opened F S K) (last : Hand (Carried F S K)) (item : Carried F S K) (rest : List (Carried F S K))
    → last ≡ both_hands handed found → Tells (λ _. true) last (item ∷ rest) → ⊥
none-left {F} {S} {K} handed found last item rest is tells =
    absurd (omega (
      arith,
      length_permutation (carried handed ∷ []) (carried found ∷ item ∷ filter (λ _. true) rest)
          (subst (λ (v : Hand (Carried F S K)). Tells (λ _. true) v (item ∷ rest)) is tells refl refl),
    ))
