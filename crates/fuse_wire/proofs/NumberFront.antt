-- A number reads only the bytes at its offset.
use Rattle.std.proofs.Common.{◌≡◌, ℕ, zero, suc, ◌+◌, ◌<◌, ◌≤◌, List, ◌++◌, length, get_or, take, refl, arith}
use Rattle.std.proofs.lemmas.List.{get_or-take, get_or_append_left}
use Rattle.fuse_wire.specs.Numbers.{number}

-- lists with the same bytes up to the end of a number have the same number
pub number-same : (width at : ℕ) (xs ys : List ℕ) → ((k : ℕ) → k < at + width → get_or xs k 0 ≡ get_or ys k 0) → number xs at width ≡ number ys at width
unfolding number
number-same zero at xs ys same = refl
number-same (suc width) at xs ys same =
    omega (arith, same at (omega arith), number-same width (suc at) xs ys (λ k below. same k (omega arith)))

-- a number in the front of a list
pub number-take : (n at width : ℕ) (xs : List ℕ) → at + width ≤ n → number (take n xs) at width ≡ number xs at width
number-take n at width xs within = number-same width at (take n xs) xs (λ k below. get_or-take n xs k 0 (omega arith))

-- a number in the first of two lists
pub number-append : (xs ys : List ℕ) (at width : ℕ) → at + width ≤ length xs → number (xs ++ ys) at width ≡ number xs at width
number-append xs ys at width within = number-same width at (xs ++ ys) xs (λ k below. get_or_append_left xs ys 0 k (omega arith))
