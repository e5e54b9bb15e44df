-- Entries of a directory: how long they are, one more behind the others, and which of them fit.
use Rattle.std.proofs.Common.{◌≡◌, ℕ, ◌+◌, ◌≤◌, List, [], ◌∷◌, ◌++◌, length, take, replicate, refl, ap, sym, ◌∙◌, arith}
use Rattle.std.proofs.Common.{length-append, append_assoc, flat_map}
use Rattle.std.proofs.Common.{Bool, true, false, Result, Ok, Err, OnErr, min, subst}
use Rattle.std.specs.List.{AllByRecursion}
use Rattle.smallvec.specs.SmallVec.{SmallVec}
use Rattle.fuse_wire.specs.declared.no_memory.NoMemory.{NoMemory}
use Rattle.fuse_reply.specs.Sizes.{max_payload}
use Rattle.std.specs.Prelude.{if◌then◌else◌}
use Rattle.std.proofs.lemmas.Bool.{le-ltb, lt-ltb}
use Rattle.std.proofs.lemmas.List.{append-nil, length-replicate, take-replicate}
use Rattle.std.proofs.lemmas.Grind.{flat_map-append}
use Rattle.fuse_reply.specs.Answer.{AreEntries}
use Rattle.fuse_reply.specs.Listing.{DirEntry, PlusEntry, Fits, dirent, dirent_head, direntplus, fitting, padding, entry_type, without_lookup}
use Rattle.fuse_reply.specs.Attributes.{entry_payload}
use Rattle.fuse_reply.proofs.PayloadLength.{length-entry_payload}

-- what holds of each holds with one more
each-add : {E : Type 0} (P : E → Type 0) (entries : List E) (e : E) → AllByRecursion P entries → P e → AllByRecursion P (entries ++ e ∷ [])
each-add P [] e each here = (here, tt)
each-add P (x ∷ entries) e each here = (each.0, each-add P entries e each.1 here)

-- an entry behind entries
pub AreEntries-add : {E : Type 0} (spelling : E → List ℕ) (InRange : E → Type 0) (bytes : List ℕ) (e : E)
    → AreEntries spelling InRange bytes → InRange e → AreEntries spelling InRange (bytes ++ spelling e)
AreEntries-add spelling InRange bytes e before in_range = record {
  entries = before.entries ++ e ∷ [];
  in_range = each-add InRange before.entries e before.in_range in_range;
  are =
      ap (λ front. front ++ spelling e) before.are
      ∙ ap (λ last. flat_map spelling before.entries ++ last) (sym (append-nil (spelling e)))
      ∙ sym (flat_map-append spelling before.entries (e ∷ []));
}

-- pieces that are put one behind the other, the last of them zero bytes, are the entry behind what was held
pub pieces : (held lookup head name with_lookup with_head with_name with_zeros : List ℕ) (zeros : ℕ) → zeros ≤ 8
    → with_lookup ≡ held ++ lookup → with_head ≡ with_lookup ++ head → with_name ≡ with_head ++ name
    → with_zeros ≡ with_name ++ take zeros (replicate 8 0) → with_zeros ≡ held ++ (lookup ++ (head ++ name ++ replicate zeros 0))
pieces held lookup head name with_lookup with_head with_name with_zeros zeros few first second third last =
    last
    ∙ ap (λ bytes. with_name ++ bytes) (take-replicate zeros 8 0 few)
    ∙ ap (λ bytes. bytes ++ replicate zeros 0)
    (third ∙ ap (λ bytes. bytes ++ name) (second ∙ ap (λ bytes. bytes ++ head) first))
    ∙ simp append_assoc

-- what is held stays entries, and within the size, whatever became of one more
pub listing-after : {E : Type 0} (spelling : E → List ℕ) (InRange : E → Type 0) (size : ℕ) (before after : SmallVec ℕ) (e : E)
    (became : Result Bool NoMemory) → AreEntries spelling InRange before.items × (length before.items ≤ min size max_payload) → InRange e
    → (became ≡ Ok false → after.items ≡ before.items ++ spelling e)
    → (became ≡ Ok false → Fits size (length before.items) (length (spelling e)))
    → (became ≡ Ok true → after ≡ before) → OnErr became (after ≡ before)
    → AreEntries spelling InRange after.items × (length after.items ≤ min size max_payload)
listing-after spelling InRange size before after e (Ok false) lists in_range taken fits full err =
    let bytes : after.items ≡ before.items ++ spelling e = taken refl in (
      subst (AreEntries spelling InRange) (sym bytes) (AreEntries-add spelling InRange before.items e lists.0 in_range),
      omega (arith, fits refl, ap length bytes ∙ length-append before.items (spelling e)),
    )
listing-after spelling InRange size before after e (Ok true) lists in_range taken fits full err =
    subst (λ (held : SmallVec ℕ). AreEntries spelling InRange held.items × (length held.items ≤ min size max_payload)) (sym (full refl)) lists
listing-after spelling InRange size before after e (Err want) lists in_range taken fits full err =
    subst (λ (held : SmallVec ℕ). AreEntries spelling InRange held.items × (length held.items ≤ min size max_payload)) (sym err) lists

-- a head has 24 bytes
pub length-dirent_head : (ino offset namelen typ : ℕ) → length (dirent_head ino offset namelen typ) ≡ 24
unfolding dirent_head
length-dirent_head ino offset namelen typ = refl

-- an entry has its head, its name and the zero bytes
pub length-dirent : (e : DirEntry) → length (dirent e) ≡ 24 + length e.name + padding (length e.name)
unfolding dirent
length-dirent e =
    omega (
      arith,
      length-append (dirent_head e.ino e.offset (length e.name) (entry_type e.kind) ++ e.name) (replicate (padding (length e.name)) 0),
      length-append (dirent_head e.ino e.offset (length e.name) (entry_type e.kind)) e.name,
      length-dirent_head e.ino e.offset (length e.name) (entry_type e.kind),
      length-replicate {A = ℕ} (padding (length e.name)) 0,
    )

-- with what a lookup answers, 128 more
pub length-direntplus : (e : PlusEntry) → length (direntplus e) ≡ 128 + (24 + length e.name + padding (length e.name))
unfolding direntplus
length-direntplus e =
    omega (
      arith,
      length-append (entry_payload e.valid e.valid e.generation e.attr) (dirent (without_lookup e)),
      length-entry_payload e.valid e.valid e.generation e.attr,
      length-dirent (without_lookup e),
    )

-- an entry that fits is listed
pub fitting-next : (size held : ℕ) (e : DirEntry) (entries : List DirEntry) → Fits size held (length (dirent e))
    → fitting size held (e ∷ entries) ≡ e ∷ fitting size (held + length (dirent e)) entries
fitting-next size held e entries fits =
    ap (λ (full : Bool). if full then [] else e ∷ fitting size (held + length (dirent e)) entries)
    (le-ltb (min size max_payload) (held + length (dirent e)) fits)

-- at one that does not fit the listing ends
pub fitting-none : (size held : ℕ) (e : DirEntry) (entries : List DirEntry) → (Fits size held (length (dirent e)) → ⊥)
    → fitting size held (e ∷ entries) ≡ []
fitting-none size held e entries none =
    ap (λ (full : Bool). if full then [] else e ∷ fitting size (held + length (dirent e)) entries)
    (lt-ltb (min size max_payload) (held + length (dirent e)) (omega (arith, none)))
