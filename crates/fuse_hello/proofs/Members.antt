-- The entries of the directory: one after another is added, up to the first that does not fit.
use Rattle.std.proofs.Common.{◌≡◌, ◌+◌, ◌≤◌, ◌++◌, ℕ, zero, suc, Bool, true, false, lit<, List, [], ◌∷◌, ◌∙◌, Some, ap, sym, refl, arith}
use Rattle.std.proofs.Common.{length, length-append, append_assoc, append-nil, drop, min}
use Rattle.std.specs.Prelude.{if◌then◌else◌, codes, nat_lt, ◌&&◌}
use Rattle.std.specs.List.{AllByRecursion}
use Rattle.std.proofs.lemmas.Bool.{ltb-true}
use Rattle.fuse_reply.specs.Answer.{AreBytes, IsDirEntry}
use Rattle.std.specs.List.{slice_get}
use Rattle.std.proofs.lemmas.Option.{slice_get_within, get_or_from_slice_get}
use Rattle.std.proofs.Math.Seq.{drop-cons}
use Rattle.std.proofs.Math.ListN.{drop_of_length-le}
use Rattle.fuse_wire.specs.declared.file_attr.FileType.TheVariants.{Directory, RegularFile}
use Rattle.fuse_reply.specs.Listing.{DirEntry, Fits, dirent, fitting, listing}
use Rattle.fuse_reply.specs.Sizes.{max_payload}
use Rattle.fuse_reply.proofs.ListingLaws.{fitting-next, fitting-none, length-dirent}
use Rattle.fuse_hello.specs.Tree.{member, members}

-- the entry at a place is the first of those from there on
pub members-from : (place : ℕ) (e : DirEntry) → slice_get members place ≡ Some e → drop place members ≡ e ∷ drop (place + 1) members
members-from place e is =
    let next : suc place ≡ place + 1 = omega arith in
    drop-cons members place e (slice_get_within members place e is)
    ∙ ap (λ (x : DirEntry). x ∷ drop (suc place) members) (get_or_from_slice_get members place e e is)
    ∙ ap (λ (n : ℕ). e ∷ drop n members) next

-- what is held, joined with what of the rest will fit, stays the same when one that fits is added
pub joined-next : (size place : ℕ) (held whole : List ℕ) (e : DirEntry) → slice_get members place ≡ Some e
    → Fits size (length held) (length (dirent e)) → held ++ listing (fitting size (length held) (drop place members)) ≡ whole
    → (held ++ dirent e) ++ listing (fitting size (length (held ++ dirent e)) (drop (place + 1) members)) ≡ whole
joined-next size place held whole e is fits joined =
    ap (λ (n : ℕ). (held ++ dirent e) ++ listing (fitting size n rest)) (length-append held (dirent e))
    ∙ append_assoc held (dirent e) (listing (fitting size (length held + length (dirent e)) rest))
    ∙ ap (λ (es : List DirEntry). held ++ listing es) (sym (fitting-next size (length held) e rest fits))
    ∙ ap (λ (es : List DirEntry). held ++ listing (fitting size (length held) es)) (sym (members-from place e is))
    ∙ joined
  where
    rest : List DirEntry
    rest = drop (place + 1) members

-- and is the whole where one does not fit
pub joined-full : (size place : ℕ) (held whole : List ℕ) (e : DirEntry) → slice_get members place ≡ Some e
    → (Fits size (length held) (length (dirent e)) → ⊥) → held ++ listing (fitting size (length held) (drop place members)) ≡ whole → held ≡ whole
joined-full size place held whole e is none joined =
    sym (append-nil held)
    ∙ ap (λ (es : List DirEntry). held ++ listing es) (sym (fitting-none size (length held) e (drop (place + 1) members) none))
    ∙ ap (λ (es : List DirEntry). held ++ listing (fitting size (length held) es)) (sym (members-from place e is))
    ∙ joined

-- all entries are held without memory
pub short-next : (place : ℕ) (held : List ℕ) (e : DirEntry) → slice_get members place ≡ Some e
    → length held + length (listing (drop place members)) ≤ 136
    → length (held ++ dirent e) + length (listing (drop (place + 1) members)) ≤ 136
short-next place held e is short =
    omega (
      arith,
      short,
      length-append held (dirent e),
      ap (λ (es : List DirEntry). length (listing es)) (members-from place e is),
      length-append (dirent e) (listing (drop (place + 1) members)),
    )

-- the last entries, of 32, 40, 32 and 32 bytes
last_one : length (listing (drop 3 members)) ≡ 32
last_one = length-append (dirent (member 3 4 RegularFile (codes "big"))) [] ∙ ap (λ (n : ℕ). n + 0) (length-dirent (member 3 4 RegularFile (codes "big")))

last_two : length (listing (drop 2 members)) ≡ 72
last_two =
    let e = member 2 3 RegularFile (codes "hello.txt") in
    omega (arith, length-append (dirent e) (listing (drop 3 members)), length-dirent e, last_one)

last_three : length (listing (drop 1 members)) ≡ 104
last_three =
    let e = member 1 2 Directory (codes "..") in
    omega (arith, length-append (dirent e) (listing (drop 2 members)), length-dirent e, last_two)

all_four : length (listing (drop 0 members)) ≡ 136
all_four =
    let e = member 1 1 Directory (codes ".") in
    omega (arith, length-append (dirent e) (listing (drop 1 members)), length-dirent e, last_three)

-- past the last one there is none
pub members-past : (place : ℕ) → 4 ≤ place → drop place members ≡ []
members-past place past = drop_of_length-le members past

pub short-from : (place : ℕ) → length (listing (drop place members)) ≤ 136
short-from zero = omega (arith, all_four)
short-from (suc zero) = omega (arith, last_three)
short-from (suc (suc zero)) = omega (arith, last_two)
short-from (suc (suc (suc zero))) = omega (arith, last_one)
short-from (suc (suc (suc (suc n)))) =
    omega (arith, ap (λ (es : List DirEntry). length (listing es)) (members-past (suc (suc (suc (suc n)))) (omega arith)))

-- from the lesser of a number and 4 on there are the same as from the number on
pub members-least : (offset : ℕ) → drop (min offset 4) members ≡ drop offset members
members-least zero = refl
members-least (suc zero) = refl
members-least (suc (suc zero)) = refl
members-least (suc (suc (suc zero))) = refl
members-least (suc (suc (suc (suc n)))) =
    members-past (min (suc (suc (suc (suc n)))) 4) (omega arith) ∙ sym (members-past (suc (suc (suc (suc n)))) (omega arith))

-- at the start nothing is held
pub joined-start : (size offset first : ℕ) (held : List ℕ) → held ≡ [] → first ≡ min offset 4
    → held ++ listing (fitting size (length held) (drop first members)) ≡ listing (fitting size 0 (drop offset members))
joined-start size offset first held none is =
    ap (λ (h : List ℕ). h ++ listing (fitting size (length h) (drop first members))) none
    ∙ ap (λ (place : ℕ). listing (fitting size 0 (drop place members))) is
    ∙ ap (λ (es : List DirEntry). listing (fitting size 0 es)) (members-least offset)

-- the names are bytes
abbrev are_bytes? : List ℕ → Bool
are_bytes? [] = true
are_bytes? (x ∷ xs) = nat_lt x 256 && are_bytes? xs

AreBytes-tested : (xs : List ℕ) → are_bytes? xs ≡ true → AreBytes xs
AreBytes-tested [] is = λ i. lit< tt
AreBytes-tested (x ∷ xs) is = by_test (nat_lt x 256) refl is (AreBytes-tested xs) where
  by_test : (b : Bool) → nat_lt x 256 ≡ b → (b && are_bytes? xs) ≡ true → (are_bytes? xs ≡ true → AreBytes xs) → AreBytes (x ∷ xs)
  by_test true low rest later zero = ltb-true x 256 low
  by_test true low rest later (suc i) = later rest i
  by_test false low rest later i = absurd (let no : ⊥ = cc in no)

-- each entry is in range
in_range : AllByRecursion IsDirEntry members
in_range = (
  record { ino = lit< tt; offset = lit< tt; name = (AreBytes-tested (codes ".") refl, lit< tt) },
  (
    record { ino = lit< tt; offset = lit< tt; name = (AreBytes-tested (codes "..") refl, lit< tt) },
    (
      record { ino = lit< tt; offset = lit< tt; name = (AreBytes-tested (codes "hello.txt") refl, lit< tt) },
      (record { ino = lit< tt; offset = lit< tt; name = (AreBytes-tested (codes "big") refl, lit< tt) }, tt),
    ),
  ),
)

in_range-drop : (place : ℕ) (entries : List DirEntry) → AllByRecursion IsDirEntry entries → AllByRecursion IsDirEntry (drop place entries)
in_range-drop zero entries all = all
in_range-drop (suc n) [] all = tt
in_range-drop (suc n) (e ∷ entries) all = in_range-drop n entries all.1

in_range-fitting : (size held : ℕ) (entries : List DirEntry) → AllByRecursion IsDirEntry entries → AllByRecursion IsDirEntry (fitting size held entries)
in_range-fitting size held [] all = tt
in_range-fitting size held (e ∷ entries) all =
    by_test (nat_lt (min size max_payload) (held + length (dirent e))) (in_range-fitting size (held + length (dirent e)) entries all.1)
  where
    by_test : (full : Bool) → AllByRecursion IsDirEntry (fitting size (held + length (dirent e)) entries)
        → AllByRecursion IsDirEntry (if full then [] else e ∷ fitting size (held + length (dirent e)) entries)
    by_test true later = tt
    by_test false later = (all.0, later)

pub in_range-listed : (size place : ℕ) → AllByRecursion IsDirEntry (fitting size 0 (drop place members))
in_range-listed size place = in_range-fitting size 0 (drop place members) (in_range-drop place members in_range)
