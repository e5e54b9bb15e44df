-- Each step of a seat of an end mark keeps the rule of its word, and what the rule says of the seats.
use Rattle.std.proofs.Common.{◌≡◌, ◌≢◌, ◌⊎◌, ℕ, zero, suc, List, [], ◌∷◌, set, Option, Some, None}
use Rattle.std.proofs.Common.{inl, inr, refl, sym, ap, ◌∙◌, subst, ⊎_elim, arith}
use Rattle.std.specs.Prelude.{slice_index, slice_set}
use mathlib.Core.Option.{some}
use lib.ListN.{get_elem?}
use Rattle.atomic_table.specs.Table.{State, Me, Allows, Splits}
use Rattle.atomic_table.specs.Table.Act.{keeps}
use Rattle.atomic_table.proofs.Lists.{at_set, at_snoc, set_again}
use Rattle.fuse_reply.specs.declared.sight.Sight.{Sight}
use Rattle.fuse_reply.specs.declared.sight.Sight.TheVariants.{Storing, Reading}
use Rattle.fuse_reply.specs.SetOnce.{told, Agrees, IsSetOnce, known_of, HasRead}
use Rattle.fuse_reply.specs.SetOnceLaws.{OneNumber, SetNumber, TwoCases, IsUnset, IsSetTo}

abbrev Each : (seal word : ℕ) → List Sight → Type 0
Each seal word views = (place : ℕ) (v : Sight) → get_elem? views place ≡ some v → Agrees seal word place v

-- what one seat knows changes
each_set : (seal word : ℕ) (views : List Sight) (id : ℕ) (w : Sight)
    → ((place : ℕ) (v : Sight) → place ≢ id → get_elem? views place ≡ some v → Agrees seal word place v)
    → Agrees seal word id w → Each seal word (set views id w)
each_set seal word views id w others mine place v e =
    ⊎_elim
    (λ (x : (place ≡ id) × (w ≡ v)). subst (λ (y : ℕ × Sight). Agrees seal word y.0 y.1) (λ i. (sym x.0 i, x.1 i)) mine)
    (λ (x : (place ≢ id) × (get_elem? views place ≡ some v)). others place v x.0 x.1)
    (at_set views id place w v e)

-- a word that was 0 may become any number, where no other seat may store
fresh : (seal word new place id : ℕ) (v : Sight)
    → id ≡ seal → None ≡ told word → place ≢ id → Agrees seal word place v → Agrees seal new place v
fresh seal word new place id (Storing known) here unset apart h = absurd (apart (h.0 ∙ sym here))
fresh seal word new place id (Reading known) here unset apart h = inl (⊎_elim (λ e. e) (λ e. e ∙ sym unset) h)

-- the Seal may store where it has not
pub stores : (slots id new : ℕ) (me : Me (Unit {0}) Sight)
    → me ≡ (Storing None, []) → Allows IsSetOnce slots id me 0 (λ _. new) (λ _ after. after ≡ (Storing (told new), []))
stores slots id new me is s h homes at small =
    let mine : Agrees h.seal h.word id (Storing None) =
    h.each id (Storing None) (at ∙ ap (λ (m : Me (Unit {0}) Sight). some m.0) is) in (
      Storing (told new),
      keeps,
      tt,
      record {
        word = new;
        words = ap (λ l. slice_set l 0 new) h.words;
        seal = h.seal;
        each = each_set h.seal new s.views id (Storing (told new))
            (λ place v apart e. fresh h.seal h.word new place id v mine.0 mine.1 apart (h.each place v e)) (mine.0, refl);
      },
      ap (λ (m : Me (Unit {0}) Sight). (Storing (told new), m.1)) is,
    )

-- a reading seat may load
pub loads : (slots id : ℕ) (me : Me (Unit {0}) Sight)
    → me ≡ (Reading (known_of me.0), []) → Allows IsSetOnce slots id me 0 (λ n. n) (λ n after. HasRead me n after)
loads slots id me is s h homes at small =
    let found : slice_index s.words 0 ≡ h.word = ap (λ l. slice_index l 0) h.words in
    let mine : Agrees h.seal h.word id (Reading (known_of me.0)) =
    h.each id (Reading (known_of me.0)) (at ∙ ap (λ (m : Me (Unit {0}) Sight). some m.0) is) in
    let w = Reading (told (slice_index s.words 0)) in (
      w,
      keeps,
      tt,
      record {
        word = h.word;
        words = ap (λ l. slice_set l 0 (slice_index l 0)) h.words;
        seal = h.seal;
        each = each_set h.seal h.word s.views id w (λ place v apart e. h.each place v e) (inr (ap told found));
      },
      (ap (λ (m : Me (Unit {0}) Sight). (w, m.1)) is, ⊎_elim inl (λ e. inr (e ∙ ap told (sym found))) mine),
    )

-- a seat that knows v splits off one that knows r
splits : (id : ℕ) (v r : Sight)
    → ((seal word place : ℕ) → Agrees seal word id v → Agrees seal word place r) → Splits IsSetOnce id v v r
splits id v r may s h at =
    record {
      word = h.word;
      words = h.words;
      seal = h.seal;
      each = λ place u e. ⊎_elim
          (λ was. h.each place u (subst (λ l. get_elem? l place ≡ some u) (set_again s.views id v at) was))
          (λ (same : r ≡ u). subst (Agrees h.seal h.word place) same (may h.seal h.word place (h.each id v at)))
          (at_snoc (set s.views id v) r u place e);
    }

-- any seat splits off a reading one that knows nothing
pub first_reader : (id : ℕ) (v : Sight) → Splits IsSetOnce id v v (Reading None)
first_reader id v = splits id v (Reading None) (λ seal word place h. inl refl)

-- a reading seat splits off another, which knows as much
pub shares : (id : ℕ) (v : Sight) (known : Option ℕ) → v ≡ Reading known → Splits IsSetOnce id v v v
shares id v known is =
    subst (λ u. Splits IsSetOnce id u u u) (sym is) (splits id (Reading known) (Reading known) (λ seal word place h. h))

-- what has read a number has read what the word tells
same_number : (word n a : ℕ) → Some n ≡ told word → (Some a ≡ None) ⊎ (Some a ≡ told word) → a ≡ n
same_number word n a set read = ⊎_elim (λ e. absurd (cc)) (λ e. let same : Some a ≡ Some n = e ∙ sym set in cc) read

told_of : (word a : ℕ) → (Some a ≡ None) ⊎ (Some a ≡ told word) → Some a ≡ told word
told_of word a read = ⊎_elim (λ e. absurd (cc)) (λ e. e) read

-- two seats that have read a number
pub one_number : OneNumber
one_number s i j m n h x y = same_number h.word n m (told_of h.word n (h.each j _ y)) (h.each i _ x)

-- a seat that has read one, and the Seal
pub set_number : SetNumber
set_number s i j m n h x y = same_number h.word m n (h.each i _ x).1 (h.each j _ y)

cases_at : (s : State (Unit {0}) Sight) (of_seal : Option ℕ) (word : ℕ) → s.words ≡ word ∷ [] → of_seal ≡ told word
    → ((j : ℕ) (known : Option ℕ) → get_elem? s.views j ≡ some (Reading known) → (known ≡ None) ⊎ (known ≡ told word))
    → IsUnset s of_seal ⊎ ((n : ℕ) × IsSetTo s of_seal n)
cases_at s of_seal zero words is each = inl (words, is, λ j known e. ⊎_elim (λ x. x) (λ x. x) (each j known e))
cases_at s of_seal (suc n) words is each = inr (n, (words ∙ ap (λ (k : ℕ). k ∷ []) (omega arith), is, each))

-- the word was stored, or not
pub two_cases : TwoCases
two_cases s i of_seal h x = cases_at s of_seal h.word h.words (h.each i _ x).1 (λ j known e. h.each j (Reading known) e)
