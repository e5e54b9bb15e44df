-- A stream of messages, cut into them.
use Rattle.std.proofs.Common.{◌≡◌, ℕ, zero, suc, ◌<◌, ◌≤◌, min, max, List, [], ◌∷◌, ◌++◌, length, take, drop, refl, sym, ap, ◌∙◌, arith}
use Rattle.std.specs.List.{concat, AllByRecursion}
use Rattle.std.proofs.lemmas.List.{length-take, length-drop, length-append, take-append-drop, take_at, drop_at}
use Rattle.fuse_wire.specs.Numbers.{number}
use Rattle.fuse_wire.specs.Cut.{first_length, cut_in, cut, IsMessage}
use Rattle.fuse_wire.specs.declared.consts.TheConstants.{BUFFER_SIZE}
use Rattle.fuse_wire.proofs.NumberFront.{number-append}

-- the first message of some bytes is not empty
pub first_length-some : (bytes : List ℕ) → 0 < length bytes → 0 < first_length bytes
first_length-some bytes some = omega arith

-- no message is cut from no bytes
pub cut_in-nil : (more : ℕ) → cut_in more [] ≡ []
unfolding cut_in
cut_in-nil zero = refl
cut_in-nil (suc more) = refl

-- none is cut where none may be
cut_in-zero : (bytes : List ℕ) → cut_in zero bytes ≡ []
unfolding cut_in
cut_in-zero bytes = refl

-- the first message is cut off, and then those after it
pub cut_in-step : (more : ℕ) (bytes : List ℕ) → 0 < length bytes →
    cut_in (suc more) bytes ≡ take (first_length bytes) bytes ∷ cut_in more (drop (first_length bytes) bytes)
unfolding cut_in
cut_in-step more [] some = absurd (omega arith)
cut_in-step more (byte ∷ bytes) some = refl

-- what is left after the first message is shorter by one at least
first_length-left : (n : ℕ) (bytes : List ℕ) → 0 < length bytes → length bytes ≤ suc n → length (drop (first_length bytes) bytes) ≤ n
first_length-left n bytes some within =
    omega (arith, length-drop (first_length bytes) bytes, first_length-some bytes some)

-- a count of messages that is enough gives the same as any other
pub cut_in-same : (n m : ℕ) (bytes : List ℕ) → length bytes ≤ n → length bytes ≤ m → cut_in n bytes ≡ cut_in m bytes
cut_in-same n m [] first second = cut_in-nil n ∙ sym (cut_in-nil m)
cut_in-same zero m (byte ∷ bytes) first second = absurd (omega arith)
cut_in-same (suc n) zero (byte ∷ bytes) first second = absurd (omega arith)
cut_in-same (suc n) (suc m) (byte ∷ bytes) first second =
    let whole = byte ∷ bytes in
    let some : 0 < length whole = omega arith in
    let rest = drop (first_length whole) whole in
    cut_in-step n whole some
    ∙ ap (λ messages. take (first_length whole) whole ∷ messages)
    (cut_in-same n m rest (first_length-left n whole some first) (first_length-left m whole some second))
    ∙ sym (cut_in-step m whole some)

-- more than enough changes nothing
pub cut_in-enough : (n : ℕ) (bytes : List ℕ) → length bytes ≤ n → cut_in n bytes ≡ cut bytes
cut_in-enough n bytes within = cut_in-same n (length bytes) bytes within (omega arith)

-- no message is in no bytes
pub cut-nil : cut [] ≡ []
cut-nil = cut_in-nil 0

-- the first message stands in front of those after it
pub cut-step : (bytes : List ℕ) → 0 < length bytes → cut bytes ≡ take (first_length bytes) bytes ∷ cut (drop (first_length bytes) bytes)
cut-step bytes some =
    let rest = drop (first_length bytes) bytes in
    cut_in-same (length bytes) (suc (length bytes)) bytes (omega arith) (omega arith)
    ∙ cut_in-step (length bytes) bytes some
    ∙ ap (λ messages. take (first_length bytes) bytes ∷ messages)
    (cut_in-enough (length bytes) rest (first_length-left (length bytes) bytes some (omega arith)))

-- bytes in front that are the first message
pub cut-front : (taken left : List ℕ) → 0 < length taken → first_length (taken ++ left) ≡ length taken → cut (taken ++ left) ≡ taken ∷ cut left
cut-front taken left some first =
    let whole = taken ++ left in
    cut-step whole (omega (arith, length-append taken left))
    ∙ ap (λ n. take n whole ∷ cut (drop n whole)) first
    ∙ ap (λ message. message ∷ cut (drop (length taken) whole)) (take_at taken left (length taken) refl)
    ∙ ap (λ rest. taken ∷ cut rest) (drop_at taken left (length taken) refl)

-- the messages, at most so many, joined again
concat-cut_in : (n : ℕ) (bytes : List ℕ) → length bytes ≤ n → concat (cut_in n bytes) ≡ bytes
concat-cut_in n [] within = ap concat (cut_in-nil n)
concat-cut_in zero (byte ∷ bytes) within = absurd (omega arith)
concat-cut_in (suc n) (byte ∷ bytes) within =
    let whole = byte ∷ bytes in
    let some : 0 < length whole = omega arith in
    let rest = drop (first_length whole) whole in
    ap concat (cut_in-step n whole some)
    ∙ ap (λ joined. take (first_length whole) whole ++ joined) (concat-cut_in n rest (first_length-left n whole some within))
    ∙ take-append-drop (first_length whole) whole

-- the messages joined are the bytes
pub concat-cut : (bytes : List ℕ) → concat (cut bytes) ≡ bytes
concat-cut bytes = concat-cut_in (length bytes) bytes (omega arith)

-- the first message is one
IsMessage-first : (bytes : List ℕ) → 0 < length bytes → IsMessage (take (first_length bytes) bytes)
IsMessage-first bytes some = record {
  some = omega (arith, length-take (first_length bytes) bytes);
  fits = omega (arith, length-take (first_length bytes) bytes);
}

-- each of the messages, at most so many
IsMessage-cut_in : (n : ℕ) (bytes : List ℕ) → AllByRecursion IsMessage (cut_in n bytes)
IsMessage-cut_in zero bytes = let e : cut_in zero bytes ≡ [] = cut_in-zero bytes in rw e tt
IsMessage-cut_in (suc n) [] = rw cut_in-nil tt
IsMessage-cut_in (suc n) (byte ∷ bytes) =
    let whole = byte ∷ bytes in
    let some : 0 < length whole = omega arith in
    rw (cut_in-step n whole some) (IsMessage-first whole some, IsMessage-cut_in n (drop (first_length whole) whole))

-- each message is not empty, and no longer than the buffer
pub IsMessage-cut : (bytes : List ℕ) → AllByRecursion IsMessage (cut bytes)
IsMessage-cut bytes = IsMessage-cut_in (length bytes) bytes

-- the last bytes of a stream are one message where they are no more than a header
pub first_length-end : (taken left : List ℕ) → length taken ≤ 40 → left ≡ [] → first_length (taken ++ left) ≡ length taken
first_length-end taken left short ended =
    omega (arith, length-append taken left, ap length ended)

-- bytes as long as their length field says, or all that are left of so many
pub first_length-front : (taken left : List ℕ) → 4 ≤ length taken → length taken ≤ min BUFFER_SIZE (max 40 (number taken 0 4)) →
    (length taken < min BUFFER_SIZE (max 40 (number taken 0 4)) → left ≡ []) → first_length (taken ++ left) ≡ length taken
first_length-front taken left header within ended =
    let none : length taken < min BUFFER_SIZE (max 40 (number taken 0 4)) → length left ≡ 0 = λ below. ap length (ended below) in
    grind (arith, none, length-append taken left, number-append taken left 0 4 header)
