-- The length field of a frame's header.
use Rattle.std.proofs.Common.{◌≡◌, ℕ, ℤ, ◌+◌, ◌++◌, ◌≤◌, arith}
use Rattle.std.specs.Int.{w32, w64, to_le_bytes, cast_unsigned}
use Rattle.fuse_wire.specs.Numbers.{number}
use Rattle.fuse_wire.proofs.NumberLaws.{number-to_le_bytes_4}
use Rattle.fuse_reply.specs.Sizes.{out_header_size, max_payload}
use Rattle.fuse_reply.specs.Frame.{out_header}

-- a header begins with the length of header and payload
pub number-out_header : (id size : ℕ) (status : ℤ) → size ≤ max_payload → number (out_header id status size) 0 4 ≡ out_header_size + size
number-out_header id size status fits =
    number-to_le_bytes_4 (out_header_size + size) (to_le_bytes w32 (cast_unsigned w32 status) ++ to_le_bytes w64 id) (omega arith)
