-- Frames that are kept one after the other.
use Rattle.std.proofs.Common.{◌≡◌, ◌≤◌, ◌^◌, ◌&&◌, Some, ◌+◌, ◌++◌, ℕ, suc, Bool, true, false, not, List, [], ◌∷◌}
use Rattle.std.proofs.Common.{refl, ap, sym, ◌∙◌, arith, length, append-nil, length-append}
use Rattle.std.specs.Prelude.{filter, nat_le, nat_lt, if◌then◌else◌}
use Rattle.std.specs.List.{concat, AllByRecursion}
use Rattle.std.proofs.lemmas.List.Elements.{filter-append}
use Rattle.std.proofs.lemmas.List.Folds.{concat-append}
use Rattle.fuse_wire.specs.Frames.{IsFrame, frames}
use Rattle.fuse_wire.specs.Numbers.{number}
use Rattle.fuse_wire.specs.Sink.{Appends, Note, Sends}
use Rattle.fuse_wire.specs.declared.sink.Sending.TheVariants.{Sent}
use Rattle.fuse_wire.proofs.Frames.{frames-concat}
use Rattle.fuse_wire.proofs.NumberFront.{number-append}
use Rattle.fuse_reply.specs.Frame.{is_set_aside}
use Rattle.fuse_loop.specs.Progress.{replies}
use Rattle.fuse_hello.specs.Store.{IsStored, SendsStored, Stored, is_error, stored_told}

All-one_more : {A : Type 0} (P : A → Type 0) (xs : List A) (x : A) → AllByRecursion P xs → P x → AllByRecursion P (xs ++ x ∷ [])
All-one_more P [] x each last = (last, tt)
All-one_more P (y ∷ ys) x each last = (each.0, All-one_more P ys x each.1 last)

-- one more frame
pub frames-one_more : (bytes frame : List ℕ) → concat (frames bytes) ≡ bytes → AllByRecursion IsFrame (frames bytes) → IsFrame frame
    → frames (bytes ++ frame) ≡ frames bytes ++ frame ∷ []
frames-one_more bytes frame joined each whole =
    ap frames (joined-one_more bytes frame joined)
    ∙ frames-concat (frames bytes ++ frame ∷ []) (All-one_more IsFrame (frames bytes) frame each whole)
  where
    joined-one_more : (bytes frame : List ℕ) → concat (frames bytes) ≡ bytes → bytes ++ frame ≡ concat (frames bytes ++ frame ∷ [])
    joined-one_more bytes frame joined =
        ap (λ (front : List ℕ). front ++ frame) (sym joined)
        ∙ (ap (λ (last : List ℕ). concat (frames bytes) ++ last) (sym (append-nil frame)) ∙ sym (concat-append (frames bytes) (frame ∷ [])))

-- the replies among them, where this is one or is set aside
kept : (aside : Bool) (frame : List ℕ) → is_set_aside frame ≡ aside
    → replies (frame ∷ []) ≡ (if aside then [] else frame ∷ [])
kept true frame is = ap (λ (aside : Bool). if not aside then frame ∷ [] else []) is
kept false frame is = ap (λ (aside : Bool). if not aside then frame ∷ [] else []) is

failed-one : (e : Bool) (frame : List ℕ) → is_error frame ≡ e → length (filter is_error (frame ∷ [])) ≡ (if e then 1 else 0)
failed-one true frame is = ap (λ (error : Bool). length (if error then frame ∷ [] else [])) is
failed-one false frame is = ap (λ (error : Bool). length (if error then frame ∷ [] else [])) is

-- a frame that is set aside is kept and not counted
pub IsStored-aside : (bytes frame : List ℕ) (count errors total : ℕ) → is_set_aside frame ≡ true → IsFrame frame
    → IsStored bytes count errors total → IsStored (bytes ++ frame) count errors total
IsStored-aside bytes frame count errors total aside whole s =
    let split : frames (bytes ++ frame) ≡ frames bytes ++ frame ∷ [] = frames-one_more bytes frame s.joined s.each whole in
    let same : replies (frames (bytes ++ frame)) ≡ replies (frames bytes) =
    ap replies split ∙ (filter-append (λ (f : List ℕ). not (is_set_aside f)) (frames bytes) (frame ∷ [])
    ∙ (ap (λ (more : List (List ℕ)). replies (frames bytes) ++ more) (kept true frame aside) ∙ append-nil (replies (frames bytes)))) in
    record {
      joined = ap concat split ∙ (concat-append (frames bytes) (frame ∷ []) ∙ (ap (λ (front : List ℕ). front ++ concat (frame ∷ [])) s.joined
          ∙ ap (λ (last : List ℕ). bytes ++ last) (append-nil frame)));
      each = rw split (All-one_more IsFrame (frames bytes) frame s.each whole);
      counted = s.counted ∙ ap (λ (fs : List (List ℕ)). length fs) (sym same);
      failed = s.failed ∙ ap (λ (fs : List (List ℕ)). length (filter is_error fs)) (sym same);
      size = s.size ∙ ap (λ (fs : List (List ℕ)). length (concat fs)) (sym same);
    }

-- a reply is counted
pub IsStored-reply : (error : Bool) (bytes frame : List ℕ) (count errors total : ℕ) → is_set_aside frame ≡ false → is_error frame ≡ error
    → IsFrame frame → IsStored bytes count errors total
    → IsStored (bytes ++ frame) (count + 1) (errors + (if error then 1 else 0)) (total + length frame)
IsStored-reply error bytes frame count errors total reply is whole s =
    let split : frames (bytes ++ frame) ≡ frames bytes ++ frame ∷ [] = frames-one_more bytes frame s.joined s.each whole in
    let more : replies (frames (bytes ++ frame)) ≡ replies (frames bytes) ++ frame ∷ [] =
    ap replies split ∙ (filter-append (λ (f : List ℕ). not (is_set_aside f)) (frames bytes) (frame ∷ [])
    ∙ ap (λ (last : List (List ℕ)). replies (frames bytes) ++ last) (kept false frame reply)) in
    let counts : length (replies (frames bytes) ++ frame ∷ []) ≡ length (replies (frames bytes)) + 1 =
    length-append (replies (frames bytes)) (frame ∷ []) in
    let fails : length (filter is_error (replies (frames bytes) ++ frame ∷ [])) ≡ length (filter is_error (replies (frames bytes))) + (if error then 1 else 0) =
    ap (λ (fs : List (List ℕ)). length fs) (filter-append is_error (replies (frames bytes)) (frame ∷ []))
    ∙ (length-append (filter is_error (replies (frames bytes))) (filter is_error (frame ∷ []))
    ∙ ap (λ (n : ℕ). length (filter is_error (replies (frames bytes))) + n) (failed-one error frame is)) in
    let sizes : length (concat (replies (frames bytes) ++ frame ∷ [])) ≡ length (concat (replies (frames bytes))) + length frame =
    ap (λ (b : List ℕ). length b) (concat-append (replies (frames bytes)) (frame ∷ [])
    ∙ ap (λ (last : List ℕ). concat (replies (frames bytes)) ++ last) (append-nil frame))
    ∙ length-append (concat (replies (frames bytes))) frame in
    record {
      joined = ap concat split ∙ (concat-append (frames bytes) (frame ∷ []) ∙ (ap (λ (front : List ℕ). front ++ concat (frame ∷ [])) s.joined
          ∙ ap (λ (last : List ℕ). bytes ++ last) (append-nil frame)));
      each = rw split (All-one_more IsFrame (frames bytes) frame s.each whole);
      counted = ap (λ (n : ℕ). n + 1) s.counted ∙ (sym counts ∙ ap (λ (fs : List (List ℕ)). length fs) (sym more));
      failed = ap (λ (n : ℕ). n + (if error then 1 else 0)) s.failed ∙ (sym fails ∙ ap (λ (fs : List (List ℕ)). length (filter is_error fs)) (sym more));
      size = ap (λ (n : ℕ). n + length frame) s.size ∙ (sym sizes ∙ ap (λ (fs : List (List ℕ)). length (concat fs)) (sym more));
    }

filter-no_longer : {A : Type 0} (p : A → Bool) (xs : List A) → length (filter p xs) ≤ length xs
filter-no_longer p [] = omega arith
filter-no_longer {A} p (x ∷ xs) = by_test (p x) (filter-no_longer p xs) where
  by_test : (b : Bool) → length (filter p xs) ≤ length xs → length (if b then x ∷ filter p xs else filter p xs) ≤ suc (length xs)
  by_test true less = omega arith
  by_test false less = omega arith

-- frames are no more than their bytes, and those that are picked are no longer
frames-no_more : (fs : List (List ℕ)) → AllByRecursion IsFrame fs → length fs ≤ length (concat fs)
frames-no_more [] each = omega arith
frames-no_more (f ∷ fs) each =
    omega (arith, each.0.header, length-append f (concat fs), frames-no_more fs each.1)

picked-no_longer : (p : List ℕ → Bool) (fs : List (List ℕ)) → length (concat (filter p fs)) ≤ length (concat fs)
picked-no_longer p [] = omega arith
picked-no_longer p (f ∷ fs) = by_test (p f) (picked-no_longer p fs) where
  by_test : (b : Bool) → length (concat (filter p fs)) ≤ length (concat fs)
      → length (concat (if b then f ∷ filter p fs else filter p fs)) ≤ length (concat (f ∷ fs))
  by_test true less = omega (arith, less, length-append f (concat (filter p fs)), length-append f (concat fs))
  by_test false less = omega (arith, less, length-append f (concat fs))

-- what is counted is at most the number of the bytes
pub IsStored-small : (bytes : List ℕ) (count errors total : ℕ) → IsStored bytes count errors total
    → (count ≤ length bytes) × (errors ≤ length bytes) × (total ≤ length bytes)
IsStored-small bytes count errors total s =
    let fs = frames bytes in
    let bytes_are : length (concat fs) ≡ length bytes = ap (λ (b : List ℕ). length b) s.joined in
    let few : length fs ≤ length (concat fs) = frames-no_more fs s.each in
    let fewer : length (replies fs) ≤ length fs = filter-no_longer (λ (f : List ℕ). not (is_set_aside f)) fs in
    let fewest : length (filter is_error (replies fs)) ≤ length (replies fs) = filter-no_longer is_error (replies fs) in
    let shorter : length (concat (replies fs)) ≤ length (concat fs) = picked-no_longer (λ (f : List ℕ). not (is_set_aside f)) fs in
    (omega (arith, s.counted, bytes_are, few, fewer), omega (arith, s.failed, bytes_are, few, fewer, fewest), omega (arith, s.size, bytes_are, shorter))

-- header and payload are a frame, whose status is in the header
pub IsFrame-parts : (header payload : List ℕ) → length header ≡ 16 → number header 0 4 ≡ 16 + length payload → IsFrame (header ++ payload)
IsFrame-parts header payload sized field = record {
  header = omega (arith, sized, length-append header payload);
  length_field = number-append header payload 0 4 (omega (arith, sized)) ∙ (field ∙ omega (arith, sized, length-append header payload));
}

-- the status of a frame is that of its header
pub aside-status : (header payload : List ℕ) (status : ℕ) (aside : Bool) → length header ≡ 16 → status ≡ number header 4 4
    → aside ≡ (nat_lt 0 status && nat_lt status (2 ^ 31)) → is_set_aside (header ++ payload) ≡ aside
aside-status header payload status aside sized is test =
    let field : number (header ++ payload) 4 4 ≡ status = number-append header payload 4 4 (omega (arith, sized)) ∙ sym is in
    ap (λ (n : ℕ). nat_lt 0 n && nat_lt n (2 ^ 31)) field ∙ sym test

pub error-status : (header payload : List ℕ) (status : ℕ) → length header ≡ 16 → status ≡ number header 4 4
    → is_error (header ++ payload) ≡ nat_le (2 ^ 31) status
error-status header payload status sized is =
    ap (λ (n : ℕ). nat_le (2 ^ 31) n) (number-append header payload 4 4 (omega (arith, sized)) ∙ sym is)

-- one more frame was sent
pub Sends-frame : (bytes frame : List ℕ) (notes : List Note) (starved : ℕ) → concat (frames bytes) ≡ bytes → AllByRecursion IsFrame (frames bytes)
    → IsFrame frame
    → Sends Sent frame (stored_told (record { frames = frames bytes; notes = notes; starved = starved }))
    (stored_told (record { frames = frames (bytes ++ frame); notes = notes; starved = starved }))
Sends-frame bytes frame notes starved joined each whole =
    let appends : Appends (frame ∷ []) [] (stored_told (record { frames = frames bytes; notes = notes; starved = starved }))
    (stored_told (record { frames = frames (bytes ++ frame); notes = notes; starved = starved })) = record {
      framed = ap Some (frames-one_more bytes frame joined each whole);
      noted = ap Some (sym (append-nil notes));
      faults = omega arith;
      origin = refl;
    } in
    ((appends, refl), refl)

-- and is one more in the store
pub SendsStored-frame : (bytes frame : List ℕ) (notes : List Note) (starved : ℕ) → concat (frames bytes) ≡ bytes → AllByRecursion IsFrame (frames bytes)
    → IsFrame frame
    → SendsStored Sent frame (record { frames = frames bytes; notes = notes; starved = starved })
    (record { frames = frames (bytes ++ frame); notes = notes; starved = starved })
SendsStored-frame bytes frame notes starved joined each whole =
    ap stored_of (frames-one_more bytes frame joined each whole)
  where
    stored_of : List (List ℕ) → Stored
    stored_of fs = record { frames = fs; notes = notes; starved = starved }
