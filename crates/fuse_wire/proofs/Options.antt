-- A map over an option, after another.
use Rattle.std.proofs.Common.{◌≡◌, List, [], ◌++◌, Option, None, Some, option_map, refl, sym, ap}
use Rattle.std.proofs.lemmas.List.{append_assoc, append-nil}

-- nothing put in front of a list changes nothing
pub option_map-front_none : {A : Type 0} (x : Option (List A)) → x ≡ option_map (λ left. [] ++ left) x
option_map-front_none None = refl
option_map-front_none (Some left) = refl

-- one list put in front, and another in front of that
pub option_map-front_then : {A : Type 0} (xs ys : List A) (x : Option (List A)) →
    option_map (λ left. xs ++ left) (option_map (λ left. ys ++ left) x) ≡ option_map (λ left. (xs ++ ys) ++ left) x
option_map-front_then xs ys None = refl
option_map-front_then xs ys (Some left) = ap Some (sym (append_assoc xs ys left))

-- nothing put after a list changes nothing
pub option_map-back_none : {A : Type 0} (x : Option (List A)) → x ≡ option_map (λ held. held ++ []) x
option_map-back_none None = refl
option_map-back_none (Some held) = ap Some (sym (append-nil held))

-- one list put after, and another after that
pub option_map-back_then : {A : Type 0} (xs ys : List A) (x : Option (List A)) →
    option_map (λ held. held ++ ys) (option_map (λ held. held ++ xs) x) ≡ option_map (λ held. held ++ (xs ++ ys)) x
option_map-back_then xs ys None = refl
option_map-back_then xs ys (Some held) = ap Some (append_assoc held xs ys)
