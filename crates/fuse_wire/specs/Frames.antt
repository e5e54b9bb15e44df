-- Frames on a stream: each begins with its length, header and payload together, in 4 bytes (`struct fuse_out_header` of `fuse.h`).
use Rattle.std.specs.Prelude.{◌≡◌, ◌≤◌, ◌&&◌, ℕ, zero, suc, Bool, List, [], ◌∷◌, length, take, drop, nat_le, if◌then◌else◌}
use Rattle.fuse_wire.specs.Numbers.{number}

-- how long the first frame says that it is
abbrev pub frame_length : List ℕ → ℕ
frame_length bytes = number bytes 0 4

-- a whole frame stands in front
abbrev pub has_frame : List ℕ → Bool
has_frame bytes = nat_le 16 (frame_length bytes) && nat_le (frame_length bytes) (length bytes)

-- the frames in front, at most so many
abbrev pub frames_in : ℕ → List ℕ → List (List ℕ)
frames_in zero bytes = []
frames_in (suc more) bytes =
    if has_frame bytes then take (frame_length bytes) bytes ∷ frames_in more (drop (frame_length bytes) bytes) else []

-- the whole frames in front of a stream
abbrev pub frames : List ℕ → List (List ℕ)
frames bytes = frames_in (length bytes) bytes

-- these bytes are one frame
pub record IsFrame (bytes : List ℕ) : Type 0 where
  pub header : 16 ≤ length bytes
  pub length_field : frame_length bytes ≡ length bytes
