-- The frames of a stream that was made of whole frames, and of a part of one more.
use Rattle.std.proofs.Common.{◌≡◌, ℕ, zero, suc, ◌+◌, ◌<◌, ◌≤◌, true, false, leb, ⊎_elim, List, [], ◌∷◌, ◌++◌, length, take, drop}
use Rattle.std.proofs.Common.{refl, ap, sym, ◌∙◌, arith, append_assoc, length-append}
use Rattle.std.specs.List.{concat, AllByRecursion}
use Rattle.std.proofs.lemmas.List.{take_at, drop_at, append-nil, take-append-drop}
use Rattle.std.proofs.lemmas.Bool.{le-leb, lt-leb, and_from, and_left, and_right, cond-true, cond-false, cases_lt}
use Rattle.fuse_wire.specs.Numbers.{number}
use Rattle.fuse_wire.specs.Frames.{IsFrame, frames, frames_in, frame_length, has_frame}
use Rattle.fuse_wire.specs.StreamSink.{IsTorn}
use Rattle.fuse_wire.proofs.NumberFront.{number-append}

-- fewer bytes than a header have no whole frame in front
pub has_frame-short : (bytes : List ℕ) → length bytes < 16 → has_frame bytes ≡ false
has_frame-short bytes short =
    ⊎_elim
    (λ (small : frame_length bytes < 16). and_left (leb 16 (frame_length bytes)) (leb (frame_length bytes) (length bytes))
    (lt-leb 16 (frame_length bytes) small))
    (λ (large : 16 ≤ frame_length bytes). and_right (leb 16 (frame_length bytes)) (leb (frame_length bytes) (length bytes))
    (lt-leb (frame_length bytes) (length bytes) (omega arith)))
    (cases_lt (frame_length bytes) 16)

-- a length field above what is there has no whole frame after it
pub has_frame-long : (bytes : List ℕ) → length bytes < frame_length bytes → has_frame bytes ≡ false
has_frame-long bytes long =
    and_right (leb 16 (frame_length bytes)) (leb (frame_length bytes) (length bytes)) (lt-leb (frame_length bytes) (length bytes) long)

-- a part of a frame that has the whole header says that it is longer
pub frame_length-torn : (torn : List ℕ) (t : IsTorn torn) → 16 ≤ length torn → length torn < frame_length torn
frame_length-torn torn t long =
    let parts : torn ++ drop (length torn) t.frame ≡ t.frame =
    ap (λ front. front ++ drop (length torn) t.frame) (sym t.part.1) ∙ take-append-drop (length torn) t.frame in
    let field : frame_length (torn ++ drop (length torn) t.frame) ≡ frame_length torn =
    number-append torn (drop (length torn) t.frame) 0 4 (omega arith) in
    let same : frame_length t.frame ≡ length t.frame = t.whole.length_field in
    let below : length torn < length t.frame = t.part.0 in
    omega (arith, ap frame_length parts, field, same, below)

-- a part of a frame has no whole frame in front
pub has_frame-torn : (torn : List ℕ) → IsTorn torn → has_frame torn ≡ false
has_frame-torn torn t =
    ⊎_elim (has_frame-short torn) (λ (long : 16 ≤ length torn). has_frame-long torn (frame_length-torn torn t long)) (cases_lt (length torn) 16)

-- a frame says its own length, whatever follows
pub frame_length-append : (frame rest : List ℕ) → IsFrame frame → frame_length (frame ++ rest) ≡ length frame
frame_length-append frame rest is_frame =
    let header : 16 ≤ length frame = is_frame.header in
    let field : frame_length (frame ++ rest) ≡ frame_length frame = number-append frame rest 0 4 (omega arith) in
    field ∙ is_frame.length_field

-- a frame stands in front, whatever follows
pub has_frame-append : (frame rest : List ℕ) → IsFrame frame → has_frame (frame ++ rest) ≡ true
has_frame-append frame rest is_frame =
    let header : 16 ≤ length frame = is_frame.header in
    let field : frame_length (frame ++ rest) ≡ length frame = frame_length-append frame rest is_frame in
    let total : length (frame ++ rest) ≡ length frame + length rest = length-append frame rest in
    and_from (leb 16 (frame_length (frame ++ rest))) (leb (frame_length (frame ++ rest)) (length (frame ++ rest)))
    (le-leb 16 (frame_length (frame ++ rest)) (omega (arith, field, header)))
    (le-leb (frame_length (frame ++ rest)) (length (frame ++ rest)) (omega (arith, field, total)))

-- the first of the frames, whatever follows
pub frames_in-append : (more : ℕ) (frame rest : List ℕ) → IsFrame frame → frames_in (suc more) (frame ++ rest) ≡ frame ∷ frames_in more rest
frames_in-append more frame rest is_frame =
    let field : length frame ≡ frame_length (frame ++ rest) = sym (frame_length-append frame rest is_frame) in
    let first : take (frame_length (frame ++ rest)) (frame ++ rest) ≡ frame = take_at frame rest _ field in
    let left : drop (frame_length (frame ++ rest)) (frame ++ rest) ≡ rest = drop_at frame rest _ field in
    cond-true (has_frame (frame ++ rest)) _ [] (has_frame-append frame rest is_frame)
    ∙ cc

-- a part of a frame has no frames, however many are asked for
pub frames_in-torn : (more : ℕ) (torn : List ℕ) → IsTorn torn → frames_in more torn ≡ []
frames_in-torn zero torn t = refl
frames_in-torn (suc more) torn t = cond-false (has_frame torn) _ [] (has_frame-torn torn t)

-- the frames of a stream of frames and of a part of one more, where enough are asked for
pub frames_in-concat : (more : ℕ) (sent : List (List ℕ)) (torn : List ℕ) → AllByRecursion IsFrame sent → IsTorn torn →
    length (concat sent ++ torn) ≤ more → frames_in more (concat sent ++ torn) ≡ sent
frames_in-concat more [] torn each t enough = frames_in-torn more torn t
frames_in-concat zero (frame ∷ sent) torn each t enough =
    let header : 16 ≤ length frame = each.0.header in
    let total : length ((frame ++ concat sent) ++ torn) ≡ length frame + length (concat sent ++ torn) =
    ap length (append_assoc frame (concat sent) torn) ∙ length-append frame (concat sent ++ torn) in
    absurd (omega (arith, header, total, enough))
frames_in-concat (suc more) (frame ∷ sent) torn each t enough =
    let header : 16 ≤ length frame = each.0.header in
    let total : length ((frame ++ concat sent) ++ torn) ≡ length frame + length (concat sent ++ torn) =
    ap length (append_assoc frame (concat sent) torn) ∙ length-append frame (concat sent ++ torn) in
    let rest : frames_in more (concat sent ++ torn) ≡ sent = frames_in-concat more sent torn each.1 t (omega (arith, header, total, enough)) in
    ap (frames_in (suc more)) (append_assoc frame (concat sent) torn)
    ∙ frames_in-append more frame (concat sent ++ torn) each.0
    ∙ ap (λ left. frame ∷ left) rest

-- the frames of a stream of frames and of a part of one more
pub frames-concat_torn : (sent : List (List ℕ)) (torn : List ℕ) → AllByRecursion IsFrame sent → IsTorn torn → frames (concat sent ++ torn) ≡ sent
frames-concat_torn sent torn each t = frames_in-concat (length (concat sent ++ torn)) sent torn each t (omega arith)

-- a frame of a header alone
abbrev bare : List ℕ
bare = 16 ∷ 0 ∷ 0 ∷ 0 ∷ 0 ∷ 0 ∷ 0 ∷ 0 ∷ 0 ∷ 0 ∷ 0 ∷ 0 ∷ 0 ∷ 0 ∷ 0 ∷ 0 ∷ []

-- no bytes are a part of a frame
pub IsTorn-nil : IsTorn []
unfolding number
IsTorn-nil = record { frame = bare; whole = record { header = omega arith; length_field = refl }; part = (omega arith, refl) }

-- the frames of a stream of frames
pub frames-concat : (sent : List (List ℕ)) → AllByRecursion IsFrame sent → frames (concat sent) ≡ sent
frames-concat sent each = ap frames (sym (append-nil (concat sent))) ∙ frames-concat_torn sent [] each IsTorn-nil
