-- Entries of a directory, one after the other: how long they are together, and that they split in one way.
use Rattle.std.proofs.Common.{◌≡◌, ℕ, ◌+◌, ◌%◌, ◌^◌, ◌==◌, ◌<◌, ◌≤◌, min, List, [], ◌∷◌, ◌++◌, length, take, drop, map, flat_map, replicate}
use Rattle.std.proofs.Common.{refl, ap, sym, ◌∙◌, arith, length-append, append_assoc, if◌then◌else◌}
use Rattle.std.specs.Int.{w32, w64, to_le_bytes}
use Rattle.std.specs.List.{AllByRecursion}
use Rattle.std.proofs.lemmas.List.{append-nil, take_at, drop_at}
use Rattle.std.proofs.lemmas.Grind.{flat_map-append}
use Rattle.fuse_wire.specs.Numbers.{number}
use Rattle.fuse_wire.proofs.NumberLaws.{number-to_le_bytes_4, number-to_le_bytes_8, number-append_right}
use Rattle.fuse_wire.specs.declared.file_attr.FileType.{FileType}
use Rattle.fuse_wire.specs.declared.file_attr.FileType.TheVariants.{NamedPipe, CharDevice, BlockDevice, Directory, RegularFile, Symlink, Socket}
use Rattle.fuse_reply.specs.Sizes.{max_payload}
use Rattle.fuse_reply.specs.Attributes.{entry_payload}
use Rattle.fuse_reply.specs.Answer.{IsDirEntry, IsPlusEntry}
use Rattle.fuse_reply.specs.Listing.{DirEntry, PlusEntry, EachFits, dirent, dirent_head, direntplus, listing, plus_listing, padding, entry_type, without_lookup}
use Rattle.fuse_reply.proofs.PayloadLength.{length-entry_payload}
use Rattle.fuse_reply.proofs.ListingLaws.{length-dirent, length-dirent_head, length-direntplus}

-- one more entry puts its bytes behind the others'
pub flat_map-add : {E : Type 0} (spelling : E → List ℕ) (entries : List E) (e : E)
    → flat_map spelling (entries ++ e ∷ []) ≡ flat_map spelling entries ++ spelling e
flat_map-add spelling entries e =
    flat_map-append spelling entries (e ∷ []) ∙ ap (λ last. flat_map spelling entries ++ last) (append-nil (spelling e))

-- a sum of multiples of 8 is one
eighths-add : (m n : ℕ) → m % 8 ≡ 0 → n % 8 ≡ 0 → (m + n) % 8 ≡ 0
eighths-add m n first second = omega arith

-- a head, a name and its zero bytes are a multiple of 8 long
padded : (n : ℕ) → (24 + n + padding n) % 8 ≡ 0
padded n = omega arith

-- so are lists of what is a multiple of 8 long
eighths : {E : Type 0} (spelling : E → List ℕ) → ((e : E) → length (spelling e) % 8 ≡ 0) → (entries : List E)
    → length (flat_map spelling entries) % 8 ≡ 0
eighths spelling each [] = refl
eighths spelling each (e ∷ entries) =
    ap (λ n. n % 8) (length-append (spelling e) (flat_map spelling entries))
    ∙ eighths-add (length (spelling e)) (length (flat_map spelling entries)) (each e) (eighths spelling each entries)

pub eighths-listing : (entries : List DirEntry) → length (listing entries) % 8 ≡ 0
eighths-listing = eighths dirent (λ e. ap (λ n. n % 8) (length-dirent e) ∙ padded (length e.name))

pub eighths-plus_listing : (entries : List PlusEntry) → length (plus_listing entries) % 8 ≡ 0
eighths-plus_listing =
    eighths direntplus (λ e. ap (λ n. n % 8) (length-direntplus e)
    ∙ eighths-add 128 (24 + length e.name + padding (length e.name)) refl (padded (length e.name)))

-- entries that each fit are at most the size together
within-behind : {E : Type 0} (spelling : E → List ℕ) (size held : ℕ) (entries : List E) → held ≤ size → EachFits spelling size held entries
    → held + length (flat_map spelling entries) ≤ size
within-behind spelling size held [] room fits = omega arith
within-behind spelling size held (e ∷ entries) room fits =
    let first : held + length (spelling e) ≤ min size max_payload = fits.0 in
    let rest : held + length (spelling e) + length (flat_map spelling entries) ≤ size =
    within-behind spelling size (held + length (spelling e)) entries (omega (arith, first)) fits.1 in
    omega (arith, rest, length-append (spelling e) (flat_map spelling entries))

pub within : {E : Type 0} (spelling : E → List ℕ) (size : ℕ) (entries : List E) → EachFits spelling size 0 entries
    → length (flat_map spelling entries) ≤ size
within spelling size entries fits = omega (arith, within-behind spelling size 0 entries (omega arith) fits)

-- where the bytes in front say how long the first entry is, entries of the same bytes are the same, entry by entry
split-one_way : {E : Type 0} (spelling : E → List ℕ) (InRange : E → Type 0) (front : List ℕ → ℕ) → ((e : E) → 0 < length (spelling e))
    → ((e : E) (rest : List ℕ) → InRange e → front (spelling e ++ rest) ≡ length (spelling e))
    → (entries others : List E) → AllByRecursion InRange entries → AllByRecursion InRange others
    → flat_map spelling entries ≡ flat_map spelling others → map spelling entries ≡ map spelling others
split-one_way spelling InRange front some says [] [] each each_other same = refl
split-one_way spelling InRange front some says [] (y ∷ others) each each_other same =
    absurd (omega (arith, some y, ap length same, length-append (spelling y) (flat_map spelling others)))
split-one_way spelling InRange front some says (x ∷ entries) [] each each_other same =
    absurd (omega (arith, some x, ap length same, length-append (spelling x) (flat_map spelling entries)))
split-one_way spelling InRange front some says (x ∷ entries) (y ∷ others) each each_other same =
    let after_x = flat_map spelling entries in
    let after_y = flat_map spelling others in
    let lengths : length (spelling x) ≡ length (spelling y) = sym (says x after_x each.0) ∙ ap front same ∙ says y after_y each_other.0 in
    let first : spelling x ≡ spelling y =
    sym (take_at (spelling x) after_x (length (spelling x)) refl) ∙ ap (take (length (spelling x))) same
    ∙ take_at (spelling y) after_y (length (spelling x)) (sym lengths) in
    let rest : after_x ≡ after_y =
    sym (drop_at (spelling x) after_x (length (spelling x)) refl) ∙ ap (drop (length (spelling x))) same
    ∙ drop_at (spelling y) after_y (length (spelling x)) (sym lengths) in
    let others_same : map spelling entries ≡ map spelling others =
    split-one_way spelling InRange front some says entries others each.1 each_other.1 rest in
    cc

-- the fields of an entry, whatever stands after it
number-ino : (e : DirEntry) (rest : List ℕ) → IsDirEntry e → number (dirent e ++ rest) 0 8 ≡ e.ino
unfolding dirent dirent_head
number-ino e rest valid =
    number-to_le_bytes_8 e.ino (to_le_bytes w64 e.offset ++ to_le_bytes w32 (length e.name) ++ to_le_bytes w32 (entry_type e.kind)
    ++ (e.name ++ replicate (padding (length e.name)) 0 ++ rest)) valid.ino

number-offset : (e : DirEntry) (rest : List ℕ) → IsDirEntry e → number (dirent e ++ rest) 8 8 ≡ e.offset
unfolding dirent dirent_head
number-offset e rest valid =
    let after : List ℕ = to_le_bytes w32 (length e.name) ++ to_le_bytes w32 (entry_type e.kind) ++ (e.name ++ replicate (padding (length e.name)) 0 ++ rest) in
    number-append_right (to_le_bytes w64 e.ino) (to_le_bytes w64 e.offset ++ after) 0 8
    ∙ number-to_le_bytes_8 e.offset after valid.offset

number-namelen : (e : DirEntry) (rest : List ℕ) → IsDirEntry e → number (dirent e ++ rest) 16 4 ≡ length e.name
unfolding dirent dirent_head
number-namelen e rest valid =
    let after : List ℕ = to_le_bytes w32 (entry_type e.kind) ++ (e.name ++ replicate (padding (length e.name)) 0 ++ rest) in
    number-append_right (to_le_bytes w64 e.ino ++ to_le_bytes w64 e.offset) (to_le_bytes w32 (length e.name) ++ after) 0 4
    ∙ number-to_le_bytes_4 (length e.name) after valid.name.1

-- a type is a number of 4 bytes
entry_type-fits : (kind : FileType) → entry_type kind < 2 ^ 32
entry_type-fits NamedPipe = omega arith
entry_type-fits CharDevice = omega arith
entry_type-fits BlockDevice = omega arith
entry_type-fits Directory = omega arith
entry_type-fits RegularFile = omega arith
entry_type-fits Symlink = omega arith
entry_type-fits Socket = omega arith

number-type : (e : DirEntry) (rest : List ℕ) → IsDirEntry e → number (dirent e ++ rest) 20 4 ≡ entry_type e.kind
unfolding dirent dirent_head
number-type e rest valid =
    let after : List ℕ = e.name ++ replicate (padding (length e.name)) 0 ++ rest in
    number-append_right (to_le_bytes w64 e.ino ++ to_le_bytes w64 e.offset ++ to_le_bytes w32 (length e.name))
    (to_le_bytes w32 (entry_type e.kind) ++ after) 0 4
    ∙ number-to_le_bytes_4 (entry_type e.kind) after (entry_type-fits e.kind)

-- the kind of a type
kind_of : ℕ → FileType
kind_of n =
    if n == 1 then NamedPipe else (if n == 2 then CharDevice else (if n == 4 then Directory else (if n == 6 then BlockDevice
    else (if n == 8 then RegularFile else (if n == 10 then Symlink else Socket)))))

kind_of-entry_type : (kind : FileType) → kind_of (entry_type kind) ≡ kind
unfolding kind_of
kind_of-entry_type NamedPipe = refl
kind_of-entry_type CharDevice = refl
kind_of-entry_type BlockDevice = refl
kind_of-entry_type Directory = refl
kind_of-entry_type RegularFile = refl
kind_of-entry_type Symlink = refl
kind_of-entry_type Socket = refl

-- the name of an entry
name-dirent : (e : DirEntry) → take (length e.name) (drop 24 (dirent e)) ≡ e.name
unfolding dirent
name-dirent e =
    let head = dirent_head e.ino e.offset (length e.name) (entry_type e.kind) in
    let zeros = replicate (padding (length e.name)) 0 in
    ap (λ bytes. take (length e.name) (drop 24 bytes)) (append_assoc head e.name zeros)
    ∙ ap (take (length e.name)) (drop_at head (e.name ++ zeros) 24 (length-dirent_head e.ino e.offset (length e.name) (entry_type e.kind)))
    ∙ take_at e.name zeros (length e.name) refl

-- entries whose numbers and names are the same
same_entry : (x y : DirEntry) → x.ino ≡ y.ino → x.offset ≡ y.offset → x.kind ≡ y.kind → x.name ≡ y.name → x ≡ y
same_entry x y ino offset kind name =
    ap (λ n. record x { ino = n }) ino ∙ ap (λ n. record { ino = y.ino; offset = n; kind = x.kind; name = x.name }) offset
    ∙ ap (λ k. record { ino = y.ino; offset = y.offset; kind = k; name = x.name }) kind
    ∙ ap (λ bytes. record { ino = y.ino; offset = y.offset; kind = y.kind; name = bytes }) name

-- an entry is given back by its bytes
dirent-back : (x y : DirEntry) → IsDirEntry x → IsDirEntry y → dirent x ≡ dirent y → x ≡ y
dirent-back x y valid_x valid_y same =
    let whole : dirent x ++ [] ≡ dirent y ++ [] = ap (λ bytes. bytes ++ []) same in
    let ino : x.ino ≡ y.ino = sym (number-ino x [] valid_x) ∙ ap (λ bytes. number bytes 0 8) whole ∙ number-ino y [] valid_y in
    let offset : x.offset ≡ y.offset = sym (number-offset x [] valid_x) ∙ ap (λ bytes. number bytes 8 8) whole ∙ number-offset y [] valid_y in
    let namelen : length x.name ≡ length y.name =
    sym (number-namelen x [] valid_x) ∙ ap (λ bytes. number bytes 16 4) whole ∙ number-namelen y [] valid_y in
    let types : entry_type x.kind ≡ entry_type y.kind =
    sym (number-type x [] valid_x) ∙ ap (λ bytes. number bytes 20 4) whole ∙ number-type y [] valid_y in
    let kind : x.kind ≡ y.kind = sym (kind_of-entry_type x.kind) ∙ ap kind_of types ∙ kind_of-entry_type y.kind in
    let name : x.name ≡ y.name =
    sym (name-dirent x) ∙ ap (λ n. take n (drop 24 (dirent x))) namelen ∙ ap (λ bytes. take (length y.name) (drop 24 bytes)) same ∙ name-dirent y in
    same_entry x y ino offset kind name

-- so are lists of them
entries-back : (entries others : List DirEntry) → AllByRecursion IsDirEntry entries → AllByRecursion IsDirEntry others
    → map dirent entries ≡ map dirent others → entries ≡ others
entries-back [] [] each each_other same = refl
entries-back [] (y ∷ others) each each_other same = absurd (let no : ⊥ = cc in no)
entries-back (x ∷ entries) [] each each_other same = absurd (let no : ⊥ = cc in no)
entries-back (x ∷ entries) (y ∷ others) each each_other same =
    let first : dirent x ≡ dirent y = cc in
    let rest : map dirent entries ≡ map dirent others = cc in
    let here : x ≡ y = dirent-back x y each.0 each_other.0 first in
    let after : entries ≡ others = entries-back entries others each.1 each_other.1 rest in
    cc

-- how long the entry in front is, by its name's length
front_length : List ℕ → ℕ
front_length bytes = 24 + number bytes 16 4 + padding (number bytes 16 4)

front_length-dirent : (e : DirEntry) (rest : List ℕ) → IsDirEntry e → front_length (dirent e ++ rest) ≡ length (dirent e)
unfolding front_length
front_length-dirent e rest valid = ap (λ n. 24 + n + padding n) (number-namelen e rest valid) ∙ sym (length-dirent e)

-- entries are given back by their listing
pub listing-back : (entries others : List DirEntry) → AllByRecursion IsDirEntry entries → AllByRecursion IsDirEntry others
    → listing entries ≡ listing others → entries ≡ others
listing-back entries others each each_other same =
    entries-back entries others each each_other
    (split-one_way dirent IsDirEntry front_length (λ e. omega (arith, length-dirent e)) front_length-dirent entries others each each_other same)

-- the same, after what a lookup answers
plus_length : List ℕ → ℕ
plus_length bytes = 128 + front_length (drop 128 bytes)

plus_length-direntplus : (e : PlusEntry) (rest : List ℕ) → IsPlusEntry e → plus_length (direntplus e ++ rest) ≡ length (direntplus e)
unfolding plus_length direntplus
plus_length-direntplus e rest valid =
    let lookup = entry_payload e.valid e.valid e.generation e.attr in
    let own : IsDirEntry (without_lookup e) = record { ino = valid.attr.ino; offset = valid.offset; name = valid.name } in
    ap (λ bytes. 128 + front_length (drop 128 bytes)) (append_assoc lookup (dirent (without_lookup e)) rest)
    ∙ ap (λ bytes. 128 + front_length bytes) (drop_at lookup (dirent (without_lookup e) ++ rest) 128 (length-entry_payload e.valid e.valid e.generation e.attr))
    ∙ ap (λ n. 128 + n) (front_length-dirent (without_lookup e) rest own)
    ∙ omega (arith, length-append lookup (dirent (without_lookup e)), length-entry_payload e.valid e.valid e.generation e.attr)

-- entries with what a lookup answers split in one way
pub plus_listing-split : (entries others : List PlusEntry) → AllByRecursion IsPlusEntry entries → AllByRecursion IsPlusEntry others
    → plus_listing entries ≡ plus_listing others → map direntplus entries ≡ map direntplus others
plus_listing-split =
    split-one_way direntplus IsPlusEntry plus_length (λ e. omega (arith, length-direntplus e)) plus_length-direntplus
