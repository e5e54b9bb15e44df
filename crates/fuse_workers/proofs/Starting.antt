-- How many starts a run asks for.
use Rattle.std.proofs.Common.{◌≡◌, ◌+◌, ◌∙◌, ℕ, inl, inr, ap, arith}
use Rattle.fuse_workers.specs.Starting.{AsksUpTo, Starts, starts}

-- the first start was asked for, and not made
pub AsksUpTo-none : (wanted : ℕ) (before asked after : Starts) → asked ≡ starts (before.asked + 1) before.refused
    → after ≡ starts asked.asked (asked.refused + 1) → AsksUpTo (1 + wanted) 0 before after
AsksUpTo-none wanted before asked after ask refuse =
    inr (
      omega arith,
      refuse ∙ ap (λ (s : Starts). starts s.asked (s.refused + 1)) ask,
    )

-- the first start was made, and then others were asked for
pub AsksUpTo-one : (wanted made : ℕ) (before asked after : Starts) → asked ≡ starts (before.asked + 1) before.refused
    → AsksUpTo wanted made asked after → AsksUpTo (1 + wanted) (1 + made) before after
AsksUpTo-one wanted made before asked after ask (inl (all, is)) =
    inl (omega (arith, all), grind (arith, ask, is))
AsksUpTo-one wanted made before asked after ask (inr (fewer, is)) =
    inr (omega (arith, fewer), grind (arith, ask, is))
