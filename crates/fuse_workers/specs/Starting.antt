-- What a run asks of whatever lets it start its threads.
use Rattle.std.specs.Prelude.{◌≡◌, ◌⊎◌, ◌+◌, ◌<◌, ℕ}

-- how many starts of threads were asked for, and how many of these were not made
pub record Starts : Type 0 where
  pub asked : ℕ
  pub refused : ℕ

abbrev pub starts : (asked refused : ℕ) → Starts
starts asked refused = record { asked = asked; refused = refused }

-- Each of the wanted starts was asked for and made, and no more were asked for; or fewer were made, and then one more was asked for, which
-- was not made.
abbrev pub AsksUpTo : (wanted made : ℕ) → (before after : Starts) → Type 0
AsksUpTo wanted made before after =
    ((made ≡ wanted) × (after ≡ starts (before.asked + made) before.refused))
    ⊎ ((made < wanted) × (after ≡ starts (before.asked + (made + 1)) (before.refused + 1)))
