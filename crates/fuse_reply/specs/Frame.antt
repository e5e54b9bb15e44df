-- Frames: a header (`struct fuse_out_header` of `fuse.h`) and a payload.
use Rattle.std.specs.Prelude.{◌≡◌, ◌<◌, ℕ, ◌+◌, ◌^◌, ◌++◌, ◌&&◌, List, map, Bool, length, nat_lt, ℤ, pos, neg_ℤ}
use Rattle.std.specs.Int.{w32, w64, to_le_bytes, cast_unsigned}
use Rattle.fuse_wire.specs.Numbers.{number, signed}
use Rattle.fuse_reply.specs.Sizes.{out_header_size}
use Rattle.fuse_reply.specs.Answer.{Answer, IsAnswer}
use Rattle.fuse_reply.specs.Answer.Answer.{Error}
use Rattle.fuse_reply.specs.Payload.{payload}

-- len4 error4 unique8, where the length counts the header too
abbrev pub out_header : (id : ℕ) (status : ℤ) (payload_length : ℕ) → List ℕ
out_header id status size =
    to_le_bytes w32 (out_header_size + size) ++ to_le_bytes w32 (cast_unsigned w32 status) ++ to_le_bytes w64 id

unfoldable pub frame : (id : ℕ) (status : ℤ) (payload : List ℕ) → List ℕ
frame id status payload = out_header id status (length payload) ++ payload

-- the frame of an id, a status and a payload, taken together
abbrev pub frame_of : ℕ × ℤ × List ℕ → List ℕ
frame_of parts = frame parts.0 parts.1 parts.2

-- the status of an answer: zero, or an error's number below zero
abbrev pub answer_status : Answer → ℤ
answer_status (Error errno) = neg_ℤ (pos errno)
answer_status a = pos 0

-- the frame that carries an answer to the request of that id
abbrev pub reply : (id : ℕ) → Answer → List ℕ
reply id answer = frame id (answer_status answer) (payload answer)

-- these bytes are the reply to a request: to one of an id of 8 bytes, by an answer in range
pub record IsReply (bytes : List ℕ) : Type 0 where
  pub id : ℕ
  pub answer : Answer
  pub id_in_range : id < 2 ^ 64
  pub answer_in_range : IsAnswer answer
  pub is_reply : bytes ≡ reply id answer

-- the frames of answers, each with the id of its request
abbrev pub reply_frames : List (ℕ × Answer) → List (List ℕ)
reply_frames = map (λ (id, answer). reply id answer)

-- the status of a frame: after the length, in two's complement
abbrev pub frame_status : List ℕ → ℤ
frame_status f = signed w32 f 4

-- A frame is set aside, and is no reply, where its status is positive.
abbrev pub is_set_aside : List ℕ → Bool
is_set_aside f = nat_lt 0 (number f 4 4) && nat_lt (number f 4 4) (2 ^ 31)
