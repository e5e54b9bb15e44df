-- Frames: what their fields read, and which of them are set aside.
use Rattle.std.proofs.Common.{◌≡◌, ◌≤◌, ◌<◌, ◌+◌, ◌-◌, ◌^◌, ◌++◌, ◌&&◌, ℕ, ℤ, pos, zero, suc, List, []}
use Rattle.std.proofs.Common.{false, length, ap, sym, ◌∙◌, arith, negsuc, nat_lt, subst, FitsSigned}
use Rattle.std.proofs.Math.Bool.{and-false}
use Rattle.std.proofs.lemmas.Bool.{le-ltb}
use Rattle.std.proofs.lemmas.Int.{to_z-of_z}
use Rattle.std.proofs.Math.Facts.{Fits-of_z}
use Rattle.std.specs.Int.{w32, w64, to_le_bytes, cast_unsigned, cast_signed}
use Rattle.fuse_wire.specs.Numbers.{number}
use Rattle.fuse_wire.specs.Frames.{IsFrame}
use Rattle.fuse_wire.proofs.NumberLaws.{number-to_le_bytes_4, number-append_right}
use Rattle.fuse_reply.specs.Sizes.{out_header_size, max_payload}
use Rattle.fuse_reply.specs.Answer.{Answer, IsAnswer}
use Rattle.fuse_reply.specs.Answer.Answer.{Error}
use Rattle.fuse_reply.specs.Payload.{payload}
use Rattle.fuse_reply.specs.Frame.{frame, reply, answer_status, frame_status, is_set_aside, IsReply}
use Rattle.fuse_reply.proofs.PayloadLength.{payload-fits}

-- a frame is its header and its payload
pub length-frame : (id : ℕ) (status : ℤ) (p : List ℕ) → length (frame id status p) ≡ out_header_size + length p
unfolding frame
length-frame id status p = omega arith

-- a frame begins with its own length
pub number-frame_length : (id : ℕ) (status : ℤ) (p : List ℕ) → length p ≤ max_payload → number (frame id status p) 0 4 ≡ length (frame id status p)
unfolding frame
number-frame_length id status p fits =
    let read : number (frame id status p) 0 4 ≡ out_header_size + length p =
    number-to_le_bytes_4 (out_header_size + length p) (to_le_bytes w32 (cast_unsigned w32 status) ++ to_le_bytes w64 id ++ p) (omega (arith, fits)) in
    read ∙ sym (length-frame id status p)

-- a frame is one frame on a stream
pub is_frame-frame : (id : ℕ) (status : ℤ) (p : List ℕ) → length p ≤ max_payload → IsFrame (frame id status p)
unfolding frame
is_frame-frame id status p fits = record { header = omega (arith, length-frame id status p); length_field = number-frame_length id status p fits }

-- after the length stands the status, in two's complement
pub number-frame_status : (id : ℕ) (status : ℤ) (p : List ℕ) → cast_unsigned w32 status < 2 ^ 32 → number (frame id status p) 4 4 ≡ cast_unsigned w32 status
unfolding frame
number-frame_status id status p fits =
    number-append_right (to_le_bytes w32 (out_header_size + length p)) (to_le_bytes w32 (cast_unsigned w32 status) ++ to_le_bytes w64 id ++ p) 0 4
    ∙ number-to_le_bytes_4 (cast_unsigned w32 status) (to_le_bytes w64 id ++ p) fits

-- a frame's status is the one that it was made of
pub frame_status-frame : (id : ℕ) (status : ℤ) (p : List ℕ) → FitsSigned w32 status → frame_status (frame id status p) ≡ status
frame_status-frame id status p fits =
    ap (cast_signed w32) (number-frame_status id status p (Fits-of_z fits).fits) ∙ to_z-of_z w32 status fits

-- a frame whose status is zero is not set aside
pub not_set_aside-frame_zero : (id : ℕ) (p : List ℕ) → is_set_aside (frame id (pos 0) p) ≡ false
not_set_aside-frame_zero id p = ap (λ n. nat_lt 0 n && nat_lt n (2 ^ 31)) (number-frame_status id (pos 0) p (omega arith))

-- nor is a frame set aside whose status is an error's number below zero
pub not_set_aside-frame_error : (id errno : ℕ) (p : List ℕ) → suc errno < 2 ^ 31 → is_set_aside (frame id (negsuc errno) p) ≡ false
not_set_aside-frame_error id errno p small =
    let read : number (frame id (negsuc errno) p) 4 4 ≡ 2 ^ 32 - suc errno = number-frame_status id (negsuc errno) p (omega arith) in
    let high : nat_lt (2 ^ 32 - suc errno) (2 ^ 31) ≡ false = le-ltb (2 ^ 32 - suc errno) (2 ^ 31) (omega (arith, small)) in
    ap (λ n. nat_lt 0 n && nat_lt n (2 ^ 31)) read ∙ ap (λ b. nat_lt 0 (2 ^ 32 - suc errno) && b) high ∙ and-false _

-- no reply is set aside
pub not_set_aside-reply : (id : ℕ) (a : Answer) → IsAnswer a → is_set_aside (reply id a) ≡ false
not_set_aside-reply id (Error zero) valid = not_set_aside-frame_zero id []
not_set_aside-reply id (Error (suc errno)) valid = not_set_aside-frame_error id errno [] valid.1
not_set_aside-reply id a valid = not_set_aside-frame_zero id (payload a)

-- the status of an answer is in the range of 4 bytes
answer_status-fits : (a : Answer) → IsAnswer a → FitsSigned w32 (answer_status a)
answer_status-fits (Error zero) valid = omega arith
answer_status-fits (Error (suc errno)) valid = omega (arith, valid.1)
answer_status-fits a valid = omega arith

-- the status of a reply is its answer's
pub frame_status-reply : (id : ℕ) (a : Answer) → IsAnswer a → frame_status (reply id a) ≡ answer_status a
frame_status-reply id a valid = frame_status-frame id (answer_status a) (payload a) (answer_status-fits a valid)

-- a reply is one frame on a stream
pub is_frame-reply : (id : ℕ) (a : Answer) → IsAnswer a → IsFrame (reply id a)
is_frame-reply id a valid = is_frame-frame id (answer_status a) (payload a) (payload-fits a valid)

-- bytes that are a reply are not set aside
pub not_set_aside-is_reply : (f : List ℕ) → IsReply f → is_set_aside f ≡ false
not_set_aside-is_reply f r = ap is_set_aside r.is_reply ∙ not_set_aside-reply r.id r.answer r.answer_in_range

-- and they are one frame on a stream
pub is_frame-is_reply : (f : List ℕ) → IsReply f → IsFrame f
is_frame-is_reply f r = subst IsFrame (sym r.is_reply) (is_frame-reply r.id r.answer r.answer_in_range)
