-- Frames on a stream, one after the other: the stream splits into them.
use Rattle.std.proofs.Common.{◌≡◌, ℕ, ℤ, zero, suc, ◌+◌, ◌<◌, ◌≤◌, ◌&&◌, Bool, true, false, leb}
use Rattle.std.proofs.Common.{List, [], ◌∷◌, ◌++◌, length, map, take, drop, refl, ap, sym, ◌∙◌, arith, length-append}
use Rattle.std.specs.List.{concat, AllByRecursion}
use Rattle.std.proofs.lemmas.List.{length-drop}
use Rattle.std.proofs.lemmas.Bool.{leb-true, cond-true, cond-false}
use Rattle.fuse_wire.specs.Frames.{IsFrame, frames, frames_in, frame_length, has_frame}
use Rattle.fuse_wire.proofs.Frames.{has_frame-short, frames_in-append, frames-concat}
use Rattle.fuse_reply.specs.Answer.{Answer, IsAnswer}
use Rattle.fuse_reply.specs.Sizes.{max_payload}
use Rattle.fuse_reply.specs.Frame.{frame_of, reply_frames}
use Rattle.fuse_reply.proofs.FrameLaws.{is_frame-frame, is_frame-reply}

both : (x y : Bool) → (x && y) ≡ true → (x ≡ true) × (y ≡ true)
both true true e = (refl, refl)
both true false e = absurd (let no : ⊥ = cc in no)
both false y e = absurd (let no : ⊥ = cc in no)

-- fewer bytes are left after a whole frame
left_after : (bytes : List ℕ) → has_frame bytes ≡ true → length (drop (frame_length bytes) bytes) < length bytes
left_after bytes whole =
    let tests : (leb 16 (frame_length bytes) ≡ true) × (leb (frame_length bytes) (length bytes) ≡ true) = both _ _ whole in
    let header : 16 ≤ frame_length bytes = leb-true 16 (frame_length bytes) tests.0 in
    let there : frame_length bytes ≤ length bytes = leb-true (frame_length bytes) (length bytes) tests.1 in
    omega (arith, length-drop (frame_length bytes) bytes, header, there)

-- the first frame and those after it, of which the same are found
frames_in-step : (m n : ℕ) (bytes : List ℕ) (found : Bool) → has_frame bytes ≡ found
    → (has_frame bytes ≡ true → frames_in m (drop (frame_length bytes) bytes) ≡ frames_in n (drop (frame_length bytes) bytes))
    → frames_in (suc m) bytes ≡ frames_in (suc n) bytes
frames_in-step m n bytes true whole rest =
    cond-true (has_frame bytes) _ [] whole
    ∙ ap (λ left. take (frame_length bytes) bytes ∷ left) (rest whole)
    ∙ sym (cond-true (has_frame bytes) _ [] whole)
frames_in-step m n bytes false none rest = cond-false (has_frame bytes) _ [] none ∙ sym (cond-false (has_frame bytes) _ [] none)

-- all frames are found where as many are asked for as there are bytes, or more
frames_in-enough : (m n : ℕ) (bytes : List ℕ) → length bytes ≤ m → length bytes ≤ n → frames_in m bytes ≡ frames_in n bytes
frames_in-enough zero zero bytes few enough = refl
frames_in-enough zero (suc n) bytes few enough = sym (cond-false (has_frame bytes) _ [] (has_frame-short bytes (omega arith)))
frames_in-enough (suc m) zero bytes few enough = cond-false (has_frame bytes) _ [] (has_frame-short bytes (omega arith))
frames_in-enough (suc m) (suc n) bytes few enough =
    frames_in-step m n bytes (has_frame bytes) refl
    (λ whole. let fewer : length (drop (frame_length bytes) bytes) < length bytes = left_after bytes whole in
    frames_in-enough m n (drop (frame_length bytes) bytes) (omega (arith, fewer, few)) (omega (arith, fewer, enough)))

-- one more frame is found where there are more bytes
frames_in-first : (more : ℕ) (frame rest : List ℕ) → IsFrame frame → length rest < more → frames_in more (frame ++ rest) ≡ frame ∷ frames rest
frames_in-first zero frame rest is_frame enough = absurd (omega (arith, enough))
frames_in-first (suc more) frame rest is_frame enough =
    frames_in-append more frame rest is_frame
    ∙ ap (λ left. frame ∷ left) (frames_in-enough more (length rest) rest (omega (arith, enough)) (omega arith))

-- a frame stands first of the frames, whatever stands after it
pub frames-append : (frame rest : List ℕ) → IsFrame frame → frames (frame ++ rest) ≡ frame ∷ frames rest
frames-append frame rest is_frame =
    let header : 16 ≤ length frame = is_frame.header in
    let total : length (frame ++ rest) ≡ length frame + length rest = length-append frame rest in
    frames_in-first (length (frame ++ rest)) frame rest is_frame (omega (arith, header, total))

-- each of them is a frame
each_frame : (parts : List (ℕ × ℤ × List ℕ)) → AllByRecursion (λ part. length part.2 ≤ max_payload) parts
    → AllByRecursion IsFrame (map frame_of parts)
each_frame [] short = tt
each_frame (part ∷ parts) short = (is_frame-frame part.0 part.1 part.2 short.0, each_frame parts short.1)

-- frames on a stream split into just those
pub frames-frame_of : (parts : List (ℕ × ℤ × List ℕ)) → AllByRecursion (λ part. length part.2 ≤ max_payload) parts
    → frames (concat (map frame_of parts)) ≡ map frame_of parts
frames-frame_of parts short = frames-concat (map frame_of parts) (each_frame parts short)

-- each reply is a frame
each_reply_frame : (answers : List (ℕ × Answer)) → AllByRecursion (λ (id, answer). IsAnswer answer) answers
    → AllByRecursion IsFrame (reply_frames answers)
each_reply_frame [] in_range = tt
each_reply_frame (a ∷ answers) in_range = (is_frame-reply a.0 a.1 in_range.0, each_reply_frame answers in_range.1)

-- replies on a stream split into just those
pub frames-reply_frames : (answers : List (ℕ × Answer)) → AllByRecursion (λ (id, answer). IsAnswer answer) answers
    → frames (concat (reply_frames answers)) ≡ reply_frames answers
frames-reply_frames answers in_range = frames-concat (reply_frames answers) (each_reply_frame answers in_range)
