-- What stands after the bytes that a good header counts is not read.
use Rattle.std.specs.Prelude.{◌≡◌, ℕ, ◌++◌, List, Ok, take}
use Rattle.fuse_wire.specs.Numbers.{number}
use Rattle.fuse_header.specs.Header.{header, body}
use Rattle.fuse_request.specs.Decoding.{operation}
use Rattle.fuse_header.specs.declared.header.Header.{Header}

-- the bytes that the header counts, with others after them
abbrev pub with_after : (m others : List ℕ) → List ℕ
with_after m others = take (number m 0 4) m ++ others

-- where the header is good, header, body and operation are the same whatever stands after
abbrev pub UnreadAfter : (m others : List ℕ) → Type 0
UnreadAfter m others = (h : Header) (granted : ℕ) → header m ≡ Ok h
    → (header (with_after m others) ≡ Ok h)
    × (body (with_after m others) ≡ body m)
    × (operation granted h.opcode (body (with_after m others)) ≡ operation granted h.opcode (body m))
