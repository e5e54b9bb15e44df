-- Replies that come later than the method which they are for.
use Rattle.std.specs.Prelude.{◌≡◌, ℕ, List}
use Rattle.fuse_reply.specs.Answer.{Answer, IsAnswer}
use Rattle.fuse_reply.specs.Frame.{reply}
use Rattle.fuse_reply.specs.declared.out.Out.{Out}
use Rattle.fuse_reply.specs.declared.out.Out.TheVariants.{Frame, Note, Deferred}

-- these bytes are the reply to the request of that id, by an answer in range
pub record IsReplyTo (id : ℕ) (bytes : List ℕ) : Type 0 where
  pub answer : Answer
  pub in_range : IsAnswer answer
  pub is_reply : bytes ≡ reply id answer

-- what a reply was spent into is a frame, and the reply to the request of that id
abbrev pub IsFrameFor : (id : ℕ) → Out → Type 0
IsFrameFor id (Frame bytes) = IsReplyTo id bytes
IsFrameFor id (Note other mark) = ⊥
IsFrameFor id (Deferred seq other) = ⊥

-- a late frame: the number of the message that it is for, the id of its request, and the frame
pub record LateSeen : Type 0 where
  pub seq : ℕ
  pub id : ℕ
  pub frame : List ℕ

abbrev pub late : (seq id : ℕ) → List ℕ → LateSeen
late seq id frame = record { seq = seq; id = id; frame = frame }
