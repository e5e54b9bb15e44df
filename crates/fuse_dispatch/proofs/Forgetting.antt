-- A batch of forgets, one row after another.
use Rattle.std.proofs.Common.{◌≡◌, ◌+◌, ℕ, List, drop, sym, subst, ap, ◌∙◌, ◌∷◌, Some}
use Rattle.std.specs.Prelude.{slice_get}
use Rattle.std.proofs.lemmas.List.{drop_more}
use Rattle.std.proofs.lemmas.Option.{get_or_from_slice_get, slice_get_within}
use Rattle.fuse_dispatch.specs.Defaults.{Forgets, IsMarkAfter}

-- what comes of the rows from a place on, where the row there is forgotten first
pub IsMarkAfter-row : {F : Type 0} (Calls : Forgets F) (forget left : F) (rows : List (ℕ × ℕ)) (place : ℕ) (row : ℕ × ℕ) (before mark after : ℕ)
    → slice_get rows place ≡ Some row → Calls forget row.0 row.1 mark left → IsMarkAfter Calls left (drop (place + 1) rows) mark after
    → IsMarkAfter Calls forget (drop place rows) before after
IsMarkAfter-row Calls forget left rows place row before mark after is called rest =
    let inside = slice_get_within rows place row is in
    let first : drop place rows ≡ row ∷ drop (place + 1) rows =
    drop_more rows place row inside ∙ ap (λ (r : ℕ × ℕ). r ∷ drop (place + 1) rows) (get_or_from_slice_get rows place row row is) in
    subst (λ (left_rows : List (ℕ × ℕ)). IsMarkAfter Calls forget left_rows before after) (sym first) (mark, left, called, rest)
