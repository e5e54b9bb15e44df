-- The messages that the program generates from a seed: an INIT, as many requests as are asked for, and a DESTROY.
use Rattle.std.specs.Prelude.{ℕ, zero, suc, ◌+◌, ◌*◌, ◌/◌, ◌%◌, ◌^◌, ◌==◌, ◌++◌, List, [], ◌∷◌, codes, length, map}
use Rattle.std.specs.Prelude.{replicate, if◌then◌else◌}
use Rattle.std.specs.Int.{w32, w64, to_le_bytes}
use Rattle.std.specs.List.{range_with_len}
use Rattle.fuse_header.specs.Opcode.{FUSE_LOOKUP, FUSE_FORGET, FUSE_GETATTR, FUSE_READ, FUSE_WRITE, FUSE_INIT, FUSE_READDIR, FUSE_DESTROY}

-- a message: len4 opcode4 unique8 nodeid8 uid4 gid4 pid4 _4 (`struct fuse_in_header`), where the length counts the header too and
-- whoever asks is 0, and its body
unfoldable pub generated_message : (opcode id node : ℕ) (body : List ℕ) → List ℕ
generated_message opcode id node body =
    to_le_bytes w32 (40 + length body) ++ to_le_bytes w32 opcode ++ to_le_bytes w64 id ++ to_le_bytes w64 node ++ replicate 16 0 ++ body

-- `struct fuse_init_in`: major4 minor4 max_readahead4, and 52 bytes that are 0
unfoldable pub init_body : (major minor max_readahead : ℕ) → List ℕ
init_body major minor max_readahead = to_le_bytes w32 major ++ to_le_bytes w32 minor ++ to_le_bytes w32 max_readahead ++ replicate 52 0

-- `struct fuse_read_in`: fh8 offset8 size4 and 20 bytes, of which offset and size alone are not 0
unfoldable pub read_body : (offset size : ℕ) → List ℕ
read_body offset size = replicate 8 0 ++ to_le_bytes w64 offset ++ to_le_bytes w32 size ++ replicate 20 0

-- `struct fuse_write_in`: fh8 offset8 size4 and 20 bytes, of which the size alone is not 0, and what is to be written
unfoldable pub write_body : (bytes : List ℕ) → List ℕ
write_body bytes = replicate 16 0 ++ to_le_bytes w32 (length bytes) ++ replicate 20 0 ++ bytes

-- a name, and the zero byte that ends it
abbrev pub name_body : (name : List ℕ) → List ℕ
name_body name = name ++ 0 ∷ []

-- the request of that id: v says which, and w of which node or from where
abbrev pub request : (id v w : ℕ) → List ℕ
request id v w =
    if v % 8 == 0 then generated_message FUSE_LOOKUP id 1 (name_body (codes "hello.txt"))
    else if v % 8 == 1 then generated_message FUSE_LOOKUP id 1 (name_body (codes "none"))
    else if v % 8 == 2 then generated_message FUSE_GETATTR id (1 + w % 4) (replicate 16 0)
    else if v % 8 == 3 then generated_message FUSE_READ id 3 (read_body (w % 256) 100)
    else if v % 8 == 4 then generated_message FUSE_READDIR id 1 (read_body 0 4096)
    else if v % 8 == 5 then generated_message FUSE_FORGET id 2 (to_le_bytes w64 1)
    else if v % 8 == 6 then generated_message FUSE_WRITE id 2 (write_body (codes "hello"))
    else generated_message 7 id 1 []

-- x begins as the seed; so many requests later it is this
unfoldable pub x_after : (seed requests : ℕ) → ℕ
x_after seed zero = seed
x_after seed (suc requests) = (x_after seed requests * 1103515245 + 12345) % 2 ^ 31

-- the request that x gives: v is x above its 16 lowest bits, and w is v above its three lowest
abbrev pub generated_request : (id x : ℕ) → List ℕ
generated_request id x = request id (x / 65536) (x / 65536 / 8)

-- the request of a place, from 0 on, which has taken its own x; the ids of requests are 2, 3 and so on
abbrev pub request_at : (seed place : ℕ) → List ℕ
request_at seed place = generated_request (place + 2) (x_after seed (place + 1))

abbrev pub requests : (seed count : ℕ) → List (List ℕ)
requests seed count = map (request_at seed) (range_with_len 0 count)

-- INIT of version 7.40 with a readahead of 128 KiB has the id 1, and DESTROY the last
abbrev pub init_message : List ℕ
init_message = generated_message FUSE_INIT 1 0 (init_body 7 40 131072)

abbrev pub destroy_message : (id : ℕ) → List ℕ
destroy_message id = generated_message FUSE_DESTROY id 0 []

-- all messages
abbrev pub stream : (seed count : ℕ) → List (List ℕ)
stream seed count = init_message ∷ (requests seed count ++ destroy_message (count + 2) ∷ [])
