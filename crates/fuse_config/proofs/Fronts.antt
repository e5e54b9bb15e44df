-- What comes after a front.
use Rattle.std.proofs.Common.{◌≡◌, ◌≢◌, ◌==◌, ◌∙◌, ℕ, List, [], ◌∷◌, ◌++◌, Option, Some}
use Rattle.std.proofs.Common.{None, Bool, true, false, if◌then◌else◌, refl, sym, ap, arith, MatchOption}
use Rattle.std.specs.Option.{option_copied}
use Rattle.std.specs.Str.Pattern.{FindsTextPrefix, StripsPrefix}
use Rattle.std.proofs.lemmas.Bool.Decides.{Decides-eqb}
use Rattle.std.proofs.lemmas.Grind.{common_steps}
use denote.Ref.{Bor}
use Rattle.fuse_config.specs.Options.{after_front}

-- what was put after a front comes after it
pub after_front-after : (front rest : List ℕ) → after_front front (front ++ rest) ≡ Some rest
after_front-after [] rest = refl
after_front-after (x ∷ front) rest = grind (arith, common_steps, after_front-after front rest)

-- one byte of a front is looked at
one_byte : (x y : ℕ) (front text : List ℕ) → ((rest : List ℕ) → (y ∷ text) ≢ (x ∷ (front ++ rest))) →
    (((rest : List ℕ) → text ≢ front ++ rest) → after_front front text ≡ None) →
    (same : Bool) → (y == x) ≡ same → (if same then after_front front text else None) ≡ None
one_byte x y front text lacks shorter true is =
    shorter (λ rest e. let byte : y ≡ x = (Decides-eqb y x).0 is in lacks rest (cc (byte, e)))
one_byte x y front text lacks shorter false is = refl

-- what does not begin with a front has nothing after it
pub after_front-none : (front text : List ℕ) → ((rest : List ℕ) → text ≢ front ++ rest) → after_front front text ≡ None
after_front-none [] text lacks = absurd (lacks text refl)
after_front-none (x ∷ front) [] lacks = refl
after_front-none (x ∷ front) (y ∷ text) lacks =
    one_byte x y front text lacks (after_front-none front text) (y == x) refl

-- what `strip_prefix` gives is what comes after the front
pub after_front-strips : (front text : List ℕ) (r : Option (Bor (List ℕ))) →
    MatchOption r (FindsTextPrefix front text None) (λ x. StripsPrefix (FindsTextPrefix front) text x.now) →
    option_copied r ≡ after_front front text
after_front-strips front text None lacks = sym (after_front-none front text lacks)
after_front-strips front text (Some x) strips =
    let after : text ≡ front ++ x.now = strips.1.1 ∙ ap (λ rest. front ++ rest) (sym strips.2) in
    sym (ap (after_front front) after ∙ after_front-after front x.now)
