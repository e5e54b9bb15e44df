-- What stands after the bytes that a good header counts is not read.
use Rattle.std.proofs.Common.{◌≡◌, ◌≤◌, ◌+◌, ◌-◌, ◌++◌, ℕ, List, Bool, true, false, length, take, drop, ap, sym, ◌∙◌}
use Rattle.std.proofs.Common.{arith, refl, nat_lt, Ok, length-append}
use Rattle.std.specs.Prelude.{Err, if◌then◌else◌}
use Rattle.std.proofs.lemmas.Bool.{le-ltb}
use Rattle.std.proofs.lemmas.Bool.Decides.{nat_tests}
use Rattle.std.proofs.lemmas.List.{length-take-le, length-drop, drop-append-le, take_at, drop-take}
use Rattle.fuse_wire.specs.Numbers.{number}
use Rattle.fuse_wire.proofs.NumberFront.{number-append, number-take}
use Rattle.fuse_header.specs.Header.{header, header_fields, body}
use Rattle.fuse_request.specs.After.{UnreadAfter, with_after}
use Rattle.fuse_request.specs.Decoding.{operation}
use Rattle.fuse_header.specs.declared.header.Header.{Header}
use Rattle.fuse_header.specs.declared.error.RequestError.{RequestError}
use Rattle.fuse_header.specs.declared.error.RequestError.TheVariants.{ShortReadHeader, ShortRead, InsufficientData}

chosen-good : (a b c : Bool) (x y z : RequestError) (f h : Header)
    → (if a then Err x else if b then Err y else if c then Err z else Ok f) ≡ Ok h
    → (a ≡ false) × (b ≡ false) × (c ≡ false) × (f ≡ h)
chosen-good true b c x y z f h is = absurd (let no : ⊥ = cc in no)
chosen-good false true c x y z f h is = absurd (let no : ⊥ = cc in no)
chosen-good false false true x y z f h is = absurd (let no : ⊥ = cc in no)
chosen-good false false false x y z f h is = (refl, refl, refl, cc)

at_least-false : (a b : ℕ) → nat_lt a b ≡ false → b ≤ a
at_least-false a b h = grind (arith, nat_tests)

-- a good header counts itself and no more than is there
bounds : (m : List ℕ) (h : Header) → header m ≡ Ok h → (40 ≤ number m 0 4) × (number m 0 4 ≤ length m) × (header_fields m ≡ h)
bounds m h good =
    let all = chosen-good (nat_lt (length m) 40) (nat_lt (length m) (number m 0 4)) (nat_lt (number m 0 4) 40)
    (ShortReadHeader (length m)) (ShortRead (length m) (number m 0 4)) InsufficientData (header_fields m) h good in
    (at_least-false (number m 0 4) 40 all.2, at_least-false (length m) (number m 0 4) all.1, all.3)

chosen-is : (a b c : Bool) (x y z : RequestError) (f : Header) → a ≡ false → b ≡ false → c ≡ false
    → (if a then Err x else if b then Err y else if c then Err z else Ok f) ≡ Ok f
chosen-is true b c x y z f no_a no_b no_c = absurd (let no : ⊥ = cc in no)
chosen-is false true c x y z f no_a no_b no_c = absurd (let no : ⊥ = cc in no)
chosen-is false false true x y z f no_a no_b no_c = absurd (let no : ⊥ = cc in no)
chosen-is false false false x y z f no_a no_b no_c = refl

-- a header that counts itself and no more than is there is good
good-header : (m : List ℕ) → 40 ≤ number m 0 4 → number m 0 4 ≤ length m → header m ≡ Ok (header_fields m)
good-header m itself there =
    chosen-is (nat_lt (length m) 40) (nat_lt (length m) (number m 0 4)) (nat_lt (number m 0 4) 40)
    (ShortReadHeader (length m)) (ShortRead (length m) (number m 0 4)) InsufficientData (header_fields m)
    (le-ltb (length m) 40 (omega (arith, itself, there))) (le-ltb (length m) (number m 0 4) there) (le-ltb (number m 0 4) 40 itself)

-- a number of the header is the same whatever stands after
same-number : (m others : List ℕ) (at width : ℕ) → at + width ≤ number m 0 4 → number m 0 4 ≤ length m
    → number (with_after m others) at width ≡ number m at width
same-number m others at width within there =
    let long : length (take (number m 0 4) m) ≡ number m 0 4 = length-take-le (number m 0 4) m there in
    number-append (take (number m 0 4) m) others at width (omega (arith, long, within))
    ∙ number-take (number m 0 4) at width m within

same-fields : (m others : List ℕ) → 40 ≤ number m 0 4 → number m 0 4 ≤ length m → header_fields (with_after m others) ≡ header_fields m
same-fields m others itself there =
    let opcode = same-number m others 4 4 (omega (arith, itself)) there in
    let unique = same-number m others 8 8 (omega (arith, itself)) there in
    let nodeid = same-number m others 16 8 (omega (arith, itself)) there in
    let uid = same-number m others 24 4 (omega (arith, itself)) there in
    let gid = same-number m others 28 4 (omega (arith, itself)) there in
    let pid = same-number m others 32 4 (omega (arith, itself)) there in
    cc

same-body : (m others : List ℕ) → 40 ≤ number m 0 4 → number m 0 4 ≤ length m → body (with_after m others) ≡ body m
same-body m others itself there =
    let n : ℕ = number m 0 4 in
    let front : List ℕ = take (number m 0 4) m in
    let long : length (take (number m 0 4) m) ≡ number m 0 4 = length-take-le (number m 0 4) m there in
    let counted : number (with_after m others) 0 4 ≡ number m 0 4 = same-number m others 0 4 (omega (arith, itself)) there in
    let beyond : drop 40 (with_after m others) ≡ drop 40 (take (number m 0 4) m) ++ others =
    drop-append-le 40 (take (number m 0 4) m) others (omega (arith, long, itself)) in
    let whole : 40 + (number m 0 4 - 40) ≡ number m 0 4 = omega (arith, itself) in
    let cut : drop 40 (take (number m 0 4) m) ≡ take (number m 0 4 - 40) (drop 40 m) =
    ap (λ (k : ℕ). drop 40 (take k m)) (sym whole) ∙ drop-take 40 (number m 0 4 - 40) m in
    ap (λ (k : ℕ). take (k - 40) (drop 40 (with_after m others))) counted
    ∙ ap (λ (b : List ℕ). take (number m 0 4 - 40) b) beyond
    ∙ take_at (drop 40 (take (number m 0 4) m)) others (number m 0 4 - 40) (length-drop 40 (take (number m 0 4) m) ∙ ap (λ (k : ℕ). k - 40) long)
    ∙ cut

-- the law
pub unread_after : (m others : List ℕ) → UnreadAfter m others
unread_after m others h granted good =
    let b = bounds m h good in
    let long : length (take (number m 0 4) m) ≡ number m 0 4 = length-take-le (number m 0 4) m b.1 in
    let counted : number (with_after m others) 0 4 ≡ number m 0 4 = same-number m others 0 4 (omega (arith, b.0)) b.1 in
    let total : length (with_after m others) ≡ length (take (number m 0 4) m) + length others = length-append (take (number m 0 4) m) others in
    let same = same-body m others b.0 b.1 in (
      good-header (with_after m others) (omega (arith, counted, b.0)) (omega (arith, counted, total, long))
          ∙ ap (λ (f : Header). Ok f) (same-fields m others b.0 b.1 ∙ b.2),
      same,
      ap (λ (bytes : List ℕ). operation granted h.opcode bytes) same,
    )
