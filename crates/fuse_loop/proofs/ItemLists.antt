-- Lists: what holds of each item, and what is mapped.
use Rattle.std.proofs.Common.{◌≡◌, ◌≤◌, ◌++◌, List, [], ◌∷◌, map, length, refl, ap, ◌∙◌, Bool, true, false, cond, arith}
use Rattle.std.specs.List.{AllByRecursion}
use Rattle.std.specs.Prelude.{filter}

-- what holds of each item of two lists holds of each of both
pub All-append : {A : Type 0} (P : A → Type 0) (xs ys : List A) → AllByRecursion P xs → AllByRecursion P ys → AllByRecursion P (xs ++ ys)
All-append P [] ys first second = second
All-append P (x ∷ xs) ys first second = (first.0, All-append P xs ys first.1 second)

-- what passes of two lists passes of both
pub filter-both : {A : Type 0} (p : A → Bool) (xs ys : List A) → filter p (xs ++ ys) ≡ filter p xs ++ filter p ys
filter-both p [] ys = refl
filter-both {A} p (x ∷ xs) ys = by_test (p x) (filter-both p xs ys) where
  by_test : (b : Bool) → filter p (xs ++ ys) ≡ filter p xs ++ filter p ys
      → cond b (x ∷ filter p (xs ++ ys)) (filter p (xs ++ ys)) ≡ cond b (x ∷ filter p xs) (filter p xs) ++ filter p ys
  by_test true rest = ap (λ (zs : List A). x ∷ zs) rest
  by_test false rest = rest

-- no more pass than there are
pub filter-shorter : {A : Type 0} (p : A → Bool) (xs : List A) → length (filter p xs) ≤ length xs
filter-shorter p [] = omega arith
filter-shorter {A} p (x ∷ xs) = by_test (p x) (filter-shorter p xs) where
  by_test : (b : Bool) → length (filter p xs) ≤ length xs → length (cond b (x ∷ filter p xs) (filter p xs)) ≤ length (x ∷ xs)
  by_test true rest = omega (arith, rest)
  by_test false rest = omega (arith, rest)

-- a list that is mapped to two lists, one after the other, is two lists
pub record Splits {A B : Type 0} (f : A → B) (xs : List A) (ys zs : List B) : Type 0 where
  pub front : List A
  pub back : List A
  pub both : xs ≡ front ++ back
  pub front_is : map f front ≡ ys
  pub back_is : map f back ≡ zs

pub Splits-map : {A B : Type 0} (f : A → B) (xs : List A) (ys zs : List B) → map f xs ≡ ys ++ zs → Splits f xs ys zs
Splits-map f xs [] zs is = record { front = []; back = xs; both = refl; front_is = refl; back_is = is }
Splits-map f [] (y ∷ ys) zs is = absurd (let no : ⊥ = cc in no)
Splits-map {A} {B} f (x ∷ xs) (y ∷ ys) zs is =
    let rest : Splits f xs ys zs = Splits-map f xs ys zs (cons-tail (f x) y (map f xs) (ys ++ zs) is) in
    record {
      front = x ∷ rest.front;
      back = rest.back;
      both = ap (λ (l : List A). x ∷ l) rest.both;
      front_is = ap (λ (l : List B). f x ∷ l) rest.front_is ∙ ap (λ (b : B). b ∷ ys) (cons-head (f x) y (map f xs) (ys ++ zs) is);
      back_is = rest.back_is;
    }
  where
    cons-tail : (a b : B) (l m : List B) → a ∷ l ≡ b ∷ m → l ≡ m
    cons-tail a b l m h = cc

    cons-head : (a b : B) (l m : List B) → a ∷ l ≡ b ∷ m → a ≡ b
    cons-head a b l m h = cc

-- all of a list passes a test that all pass
pub filter-all : {A : Type 0} (xs : List A) → filter (λ (x : A). true) xs ≡ xs
filter-all [] = refl
filter-all {A} (x ∷ xs) = ap (λ (l : List A). x ∷ l) (filter-all xs)
