-- A message read from a stream of bytes.
use Rattle.std.proofs.Common.{◌≡◌, ℕ, ◌+◌, ◌-◌, ◌<◌, ◌≤◌, min, max, List, [], ◌∷◌, ◌++◌, Option, None, Some, option_map, IfSome}
use Rattle.std.proofs.Common.{length, take, drop, sym, ap, subst, ◌∙◌, arith}
use Rattle.std.proofs.lemmas.List.{length-take-le, take_all, take-append-le, length-append, length-drop}
use Rattle.std.proofs.lemmas.Option.{IfSome_then}
use Rattle.std.proofs.Math.Seq.{take-append-add}
use borrow.Rule.Slice.PartMut.{put_mid, post_of}
use Rattle.fuse_wire.specs.Numbers.{number}
use Rattle.fuse_wire.specs.Cut.{first_length, cut}
use Rattle.fuse_wire.specs.Source.{Takes, TakesMessage}
use Rattle.fuse_wire.specs.ByteSource.{ByteSourceState, TakesBytes}
use Rattle.fuse_wire.specs.StreamSource.{stream_source_told, Filled}
use Rattle.fuse_wire.specs.declared.consts.TheConstants.{BUFFER_SIZE}
use Rattle.fuse_wire.proofs.Cut.{cut-front, cut-nil, first_length-end, first_length-front}
use Rattle.fuse_wire.proofs.NumberFront.{number-append, number-take}
use Rattle.fuse_wire.proofs.Devices.{TakesBytes-then}

-- the front of a buffer whose part was written, up to a place in that part
pub take-put_mid_into : (a k m : ℕ) (xs ys : List ℕ) → a ≤ length xs → m ≤ length ys → take (a + m) (put_mid a k xs ys) ≡ take a xs ++ take m ys
take-put_mid_into a k m xs ys within into =
    let long : length (take a xs) ≡ a = length-take-le a xs within in
    let behind = ys ++ post_of a k xs in
    ap (λ n. take (n + m) (take a xs ++ behind)) (sym long)
    ∙ take-append-add (take a xs) behind m
    ∙ ap (λ written. take a xs ++ written) (take-append-le m ys (post_of a k xs) into)

-- a buffer whose part was written is as long as before
length-put_mid : (a k : ℕ) (xs ys : List ℕ) → a + k ≤ length xs → length ys ≡ k → length (put_mid a k xs ys) ≡ length xs
length-put_mid a k xs ys within long =
    let front : length (take a xs) ≡ a = length-take-le a xs (omega arith) in
    omega (arith, length-append (take a xs) (ys ++ post_of a k xs), length-append ys (post_of a k xs), length-drop k (drop a xs), length-drop a xs)

-- bytes taken from a stream that are its first message, as a turn
cut-turn : (taken : List ℕ) (before after : Option (List ℕ)) → before ≡ option_map (λ left. taken ++ left) after → 0 < length taken →
    IfSome after (λ left. first_length (taken ++ left) ≡ length taken) →
    option_map cut before ≡ option_map (λ left. (taken ∷ []) ++ left) (option_map cut after)
cut-turn taken before None bytes some first = ap (option_map cut) bytes
cut-turn taken before (Some left) bytes some first = ap (option_map cut) bytes ∙ ap Some (cut-front taken left some first)

-- bytes at the front of a buffer that are the first message of the stream that they were taken from
pub TakesMessage-front : (n : ℕ) (before after : ByteSourceState) (buffer : List ℕ) → TakesBytes (take n buffer) before after →
    0 < n → n ≤ BUFFER_SIZE → n ≤ length buffer → IfSome after.bytes (λ left. first_length (take n buffer ++ left) ≡ n) →
    TakesMessage n (stream_source_told before) (stream_source_told after) buffer
TakesMessage-front n before after buffer taken some fits within first =
    let long : length (take n buffer) ≡ n = length-take-le n buffer within in
    record {
      turn = take n buffer;
      taken = record {
        turns = cut-turn (take n buffer) before.bytes after.bytes taken.bytes (omega arith) (rw long first);
        faults = taken.faults;
      };
      fits = fits;
      bytes = sym (take_all BUFFER_SIZE (take n buffer) (omega arith));
    }

-- what no byte was taken from, and where none is left, has no message
turns-end : (before after : Option (List ℕ)) → before ≡ option_map (λ left. [] ++ left) after → IfSome after (λ left. left ≡ []) →
    IfSome (option_map cut before) (λ left. left ≡ [])
turns-end before None bytes ended = subst (λ (b : Option (List ℕ)). IfSome (option_map cut b) (λ left. left ≡ [])) (sym bytes) tt
turns-end before (Some left) bytes ended =
    subst (λ (b : Option (List ℕ)). IfSome (option_map cut b) (λ left. left ≡ [])) (sym bytes) (ap cut ended ∙ cut-nil)

-- where no byte was taken no turn was
turns-none : (before after : Option (List ℕ)) → before ≡ option_map (λ left. [] ++ left) after →
    option_map cut before ≡ option_map (λ left. [] ++ left) (option_map cut after)
turns-none before None bytes = ap (option_map cut) bytes
turns-none before (Some left) bytes = ap (option_map cut) bytes

-- a header of which no byte came: no message is left
pub Gone-from_filled : (count size : ℕ) (before after : ByteSourceState) (piece : List ℕ) → Filled count size before after piece →
    count ≡ 0 → 0 < size →
    IfSome (option_map cut before.bytes) (λ left. left ≡ []) × Takes [] (stream_source_told before) (stream_source_told after)
Gone-from_filled count size before after piece filled none some =
    let empty : take count piece ≡ [] = ap (λ n. take n piece) none in
    let bytes : before.bytes ≡ option_map (λ left. [] ++ left) after.bytes =
    filled.taken.bytes ∙ ap (λ taken. option_map (λ left. taken ++ left) after.bytes) empty in (
      turns-end before.bytes after.bytes bytes (filled.whole (omega arith)),
      record { turns = turns-none before.bytes after.bytes bytes; faults = filled.taken.faults },
    )

-- a header of which the end is lacking: it is the last message
pub TakesMessage-short : (count size : ℕ) (before after : ByteSourceState) (piece behind : List ℕ) → Filled count size before after piece →
    0 < count → count < size → size ≡ 40 → length piece ≡ size →
    TakesMessage count (stream_source_told before) (stream_source_told after) (piece ++ behind)
TakesMessage-short count size before after piece behind filled some short header long =
    let front : take count (piece ++ behind) ≡ take count piece = take-append-le count piece behind (omega arith) in
    let held : length (take count piece) ≡ count = length-take-le count piece (omega arith) in
    TakesMessage-front count before after (piece ++ behind)
    (rw front filled.taken)
    some
    (omega arith)
    (omega (arith, length-append piece behind))
    (IfSome_then after.bytes (filled.whole short)
    (λ left ended. ap (λ taken. first_length (taken ++ left)) front ∙ first_length-end (take count piece) left (omega arith) ended ∙ held))

-- how long a message is that was filled as far as its length field says, or as bytes were left
first_length-filled : (taken : List ℕ) (after : Option (List ℕ)) → 4 ≤ length taken → length taken ≤ min BUFFER_SIZE (max 40 (number taken 0 4)) →
    (length taken < min BUFFER_SIZE (max 40 (number taken 0 4)) → IfSome after (λ left. left ≡ [])) →
    IfSome after (λ left. first_length (taken ++ left) ≡ length taken)
first_length-filled taken None header within ended = tt
first_length-filled taken (Some left) header within ended = first_length-front taken left header within ended

-- a whole header, and after it what its length field says, or all that was left of that
pub TakesMessage-long : (more end size : ℕ) (before between after : ByteSourceState) (held piece : List ℕ) →
    TakesBytes (take 40 held) before between → Filled more size between after piece →
    length held ≡ BUFFER_SIZE → end ≡ min BUFFER_SIZE (max 40 (number held 0 4)) → size ≡ end - 40 → length piece ≡ size →
    TakesMessage (40 + more) (stream_source_told before) (stream_source_told after) (put_mid 40 (end - 40) held piece)
TakesMessage-long more end size before between after held piece header filled buffer ends sized long =
    let fits = filled.fits in
    let written = put_mid 40 (end - 40) held piece in
    let taken = take 40 held ++ take more piece in
    let front : take (40 + more) written ≡ taken =
    take-put_mid_into 40 (end - 40) more held piece (omega arith) (omega arith) in
    let header_long : length (take 40 held) ≡ 40 = length-take-le 40 held (omega arith) in
    let more_long : length (take more piece) ≡ more = length-take-le more piece (omega arith) in
    let whole_long : length taken ≡ 40 + more = omega (arith, length-append (take 40 held) (take more piece)) in
    let field : number taken 0 4 ≡ number held 0 4 =
    number-append (take 40 held) (take more piece) 0 4 (omega arith) ∙ number-take 40 0 4 held (omega arith) in
    TakesMessage-front (40 + more) before after written
    (rw front (TakesBytes-then (take 40 held) (take more piece) before between after header filled.taken))
    (omega arith)
    (omega arith)
    (omega (arith, length-put_mid 40 (end - 40) held piece (omega arith) (omega arith)))
    (IfSome_then after.bytes
    (first_length-filled taken after.bytes (omega arith) (omega arith) (λ below. filled.whole (omega arith)))
    (λ left first. ap (λ bytes. first_length (bytes ++ left)) front ∙ first ∙ whole_long))
