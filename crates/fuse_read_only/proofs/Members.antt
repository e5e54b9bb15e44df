-- The entries of a directory: one after another is added, up to the first that does not fit.
use Rattle.std.proofs.Common.{◌≡◌, ◌⊎◌, inl, inr, ◌+◌, ◌<◌, ◌≤◌, ◌++◌, ℕ, suc, Bool, List, [], ◌∷◌, ◌∙◌, None, Some, ap, sym, refl, arith, subst}
use Rattle.std.proofs.Common.{length, length-append, append_assoc, drop, get_or}
use Rattle.std.specs.Prelude.{if◌then◌else◌, Result, Ok, Err, IfErr}
use Rattle.std.specs.List.{AllByRecursion, slice_get}
use Rattle.std.proofs.lemmas.Bool.{le-ltb, lt-ltb}
use Rattle.std.proofs.lemmas.Option.{slice_get_cases, slice_get_within, get_or_from_slice_get}
use Rattle.std.proofs.lemmas.List.{append-nil}
use Rattle.std.proofs.lemmas.Grind.{flat_map-append}
use Rattle.std.proofs.Math.Seq.{drop-cons}
use Rattle.std.proofs.Math.ListN.{drop_of_length-le}
use Rattle.fuse_reply.specs.Adding.{ListingSeen}
use Rattle.fuse_reply.specs.Listing.{DirEntry, Fits, dirent, fitting, listing}
use Rattle.fuse_reply.specs.Answer.{IsDirEntry}
use Rattle.fuse_reply.proofs.ListingLaws.{fitting-next, fitting-none}
use Rattle.fuse_read_only.specs.Tree.{Member, followed_by, last_offset, with_offsets}

-- what stands at a place is the first of what stands there and later
with_offsets-from : (members : List Member) (place : ℕ) (m : Member) → slice_get members place ≡ Some m → place < last_offset
    → with_offsets place (drop place members) ≡ followed_by (place + 1) m ∷ with_offsets (place + 1) (drop (place + 1) members)
with_offsets-from members place m is low =
    let next : suc place ≡ place + 1 = omega arith in
    ap (λ (ms : List Member). with_offsets place ms)
    (drop-cons members place m (slice_get_within members place m is)
    ∙ ap (λ (x : Member). x ∷ drop (suc place) members) (get_or_from_slice_get members place m m is)
    ∙ ap (λ (n : ℕ). m ∷ drop n members) next)
    ∙ ap
    (λ (counts : Bool). if counts then followed_by (place + 1) m ∷ with_offsets (place + 1) (drop (place + 1) members) else [])
    (lt-ltb place last_offset low)

-- where nothing stands the members are over
slice_get_beyond : (members : List Member) (place : ℕ) → slice_get members place ≡ None → length members ≤ place
slice_get_beyond members place is = by_side (slice_get_cases members place).1 where
  by_side : ((m : Member) × (place < length members) × (slice_get members place ≡ Some m) × (get_or members place m ≡ m))
      ⊎ ((length members ≤ place) × (slice_get members place ≡ None)) → length members ≤ place
  by_side (inl within) = absurd (let found : slice_get members place ≡ Some within.0 = within.2 in let no : ⊥ = cc in no)
  by_side (inr beyond) = beyond.0

-- and nothing follows
pub with_offsets-none : (members : List Member) (place : ℕ) → slice_get members place ≡ None → with_offsets place (drop place members) ≡ []
with_offsets-none members place is = ap (λ (ms : List Member). with_offsets place ms) (drop_of_length-le members (slice_get_beyond members place is))

-- from the last number on no entry has an offset
pub with_offsets-last : (members : List Member) (place : ℕ) → last_offset ≤ place → with_offsets place members ≡ []
with_offsets-last [] place last = refl
with_offsets-last (m ∷ members) place last =
    ap (λ (counts : Bool). if counts then followed_by (place + 1) m ∷ with_offsets (place + 1) members else []) (le-ltb place last_offset last)

-- an entry behind others, as bytes
pub listing-add : (taken : List DirEntry) (e : DirEntry) → listing (taken ++ e ∷ []) ≡ listing taken ++ dirent e
listing-add taken e =
    flat_map-append dirent taken (e ∷ []) ∙ ap (λ (last : List ℕ). listing taken ++ last) (append-nil (dirent e))

-- those taken and those of the rest that will fit, where one more is taken
pub joined-next : (size : ℕ) (taken whole rest : List DirEntry) (e : DirEntry) → Fits size (length (listing taken)) (length (dirent e))
    → taken ++ fitting size (length (listing taken)) (e ∷ rest) ≡ whole
    → (taken ++ e ∷ []) ++ fitting size (length (listing (taken ++ e ∷ []))) rest ≡ whole
joined-next size taken whole rest e fits joined =
    ap (λ (bytes : List ℕ). (taken ++ e ∷ []) ++ fitting size (length bytes) rest) (listing-add taken e)
    ∙ ap (λ (n : ℕ). (taken ++ e ∷ []) ++ fitting size n rest) (length-append (listing taken) (dirent e))
    ∙ append_assoc taken (e ∷ []) (fitting size (length (listing taken) + length (dirent e)) rest)
    ∙ ap (λ (es : List DirEntry). taken ++ es) (sym (fitting-next size (length (listing taken)) e rest fits))
    ∙ joined

-- where one stands at a place, it is the next one there
pub joined-here : (members : List Member) (place size : ℕ) (taken whole : List DirEntry) (m : Member) → slice_get members place ≡ Some m
    → place < last_offset → taken ++ fitting size (length (listing taken)) (with_offsets place (drop place members)) ≡ whole
    → taken ++ fitting size (length (listing taken)) (followed_by (place + 1) m ∷ with_offsets (place + 1) (drop (place + 1) members)) ≡ whole
joined-here members place size taken whole m is low joined =
    ap (λ (es : List DirEntry). taken ++ fitting size (length (listing taken)) es) (sym (with_offsets-from members place m is low))
    ∙ joined

-- they are all where the next one does not fit
pub joined-full : (size : ℕ) (taken whole rest : List DirEntry) (e : DirEntry) → (Fits size (length (listing taken)) (length (dirent e)) → ⊥)
    → taken ++ fitting size (length (listing taken)) (e ∷ rest) ≡ whole → taken ≡ whole
joined-full size taken whole rest e none joined =
    sym (append-nil taken)
    ∙ ap (λ (es : List DirEntry). taken ++ es) (sym (fitting-none size (length (listing taken)) e rest none))
    ∙ joined

-- and where there is no next one
pub joined-end : (size : ℕ) (taken whole rest : List DirEntry) → rest ≡ []
    → taken ++ fitting size (length (listing taken)) rest ≡ whole → taken ≡ whole
joined-end size taken whole rest none joined =
    sym (append-nil taken)
    ∙ ap (λ (es : List DirEntry). taken ++ fitting size (length (listing taken)) es) (sym none)
    ∙ joined

-- what holds of each holds with one more
pub each-add : {E : Type 0} (P : E → Type 0) (entries : List E) (e : E) → AllByRecursion P entries → P e → AllByRecursion P (entries ++ e ∷ [])
each-add P [] e each here = (here, tt)
each-add P (x ∷ entries) e each here = (each.0, each-add P entries e each.1 here)

-- what was taken is the whole
pub listed-whole : (taken whole : List DirEntry) (before after : ListingSeen) → after ≡ record before { held = listing taken }
    → AllByRecursion IsDirEntry taken → taken ≡ whole → (after ≡ record before { held = listing whole }) × AllByRecursion IsDirEntry whole
listed-whole taken whole before after same in_range all =
    (same ∙ ap (λ (es : List DirEntry). record before { held = listing es }) all, subst (AllByRecursion IsDirEntry) all in_range)

-- where one that fits takes more than so many bytes, all of them do
pub listed-more : (size limit : ℕ) (taken whole rest : List DirEntry) (e : DirEntry) → Fits size (length (listing taken)) (length (dirent e))
    → limit < length (listing taken) + length (dirent e) → taken ++ fitting size (length (listing taken)) (e ∷ rest) ≡ whole
    → limit < length (listing whole)
listed-more size limit taken whole rest e fits more joined =
    let later = fitting size (length (listing taken) + length (dirent e)) rest in
    let is : taken ++ e ∷ later ≡ whole =
    ap (λ (es : List DirEntry). taken ++ es) (sym (fitting-next size (length (listing taken)) e rest fits)) ∙ joined in
    let bytes : listing whole ≡ listing taken ++ (dirent e ++ listing later) =
    ap listing (sym is) ∙ flat_map-append dirent taken (e ∷ later) in
    omega (
      arith,
      more,
      ap length bytes,
      length-append (listing taken) (dirent e ++ listing later),
      length-append (dirent e) (listing later),
    )

-- what holds anyway holds where there is an error
pub of-error : {A E P : Type 0} (result : Result A E) → P → IfErr result (λ _. P)
of-error (Ok a) holds = tt
of-error (Err e) holds = holds
