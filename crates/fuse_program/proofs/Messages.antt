-- Generated messages: each has a good header and none but the last is DESTROY, and the first is an INIT that can be accepted.
use Rattle.std.proofs.Common.{◌≡◌, ◌≤◌, ◌<◌, ◌+◌, ◌/◌, ◌%◌, ◌^◌, ◌++◌, ◌==◌, ℕ, Bool, true, false, List, [], ◌∷◌, Some, Ok, Err, inl, inr}
use Rattle.std.proofs.Common.{refl, ap, sym, ◌∙◌, subst, arith, length, map, codes, if◌then◌else◌}
use Rattle.std.specs.Int.{w32, w64, to_le_bytes}
use Rattle.std.specs.List.{AllByRecursion, range_with_len}
use Rattle.std.specs.Prelude.{nat_lt, replicate}
use Rattle.std.proofs.lemmas.Bool.{le-ltb}
use Rattle.std.proofs.lemmas.List.{take_all}
use Rattle.fuse_wire.specs.Numbers.{number}
use Rattle.fuse_wire.specs.Source.{message}
use Rattle.fuse_wire.specs.declared.consts.TheConstants.{BUFFER_SIZE}
use Rattle.fuse_wire.proofs.NumberLaws.{number-append_right, number-to_le_bytes_4}
use Rattle.fuse_header.specs.Header.{header, header_fields, body}
use Rattle.fuse_header.specs.Opcode.{FUSE_LOOKUP, FUSE_FORGET, FUSE_GETATTR, FUSE_READ, FUSE_WRITE, FUSE_INIT, FUSE_READDIR, FUSE_DESTROY}
use Rattle.fuse_request.specs.Decoding as decoding
use Rattle.fuse_request.specs.Decoding.{operation}
use Rattle.fuse_request.specs.Operation.Op.{Init}
use Rattle.fuse_header.specs.declared.header.Header.{Header}
use Rattle.fuse_header.specs.declared.error.RequestError.{RequestError}
use Rattle.fuse_header.specs.declared.error.RequestError.TheVariants.{ShortReadHeader, ShortRead, InsufficientData}
use Rattle.fuse_loop.specs.Incoming.{incoming, incoming_by}
use Rattle.fuse_loop.specs.Incoming.Incoming.{Destroy, Request}
use Rattle.fuse_session.specs.Complete.{GoodHeaders, HandshakeWell, IsInit, OpensAtLeast, OpensWell, SessionWell}
use Rattle.fuse_hello.specs.Generated.{destroy_message, generated_message, init_message, init_body, name_body, read_body, request, request_at, requests, stream}
use Rattle.fuse_hello.specs.Generated.{write_body, x_after}
use Rattle.fuse_hello.specs.Store.{messages_told}
use Rattle.fuse_hello.specs.Tree.{tree_may_init}
use Rattle.fuse_hello.specs.declared.hello.Hello.{Hello}
use Rattle.fuse_program.proofs.Conversing.{AcceptsAll-tree}

-- the field of the length
pub size_field : (opcode id node : ℕ) (rest : List ℕ) → length rest ≤ 64 → number (generated_message opcode id node rest) 0 4 ≡ 40 + length rest
unfolding generated_message
size_field opcode id node rest short =
    number-to_le_bytes_4 (40 + length rest)
    (to_le_bytes w32 opcode ++ to_le_bytes w64 id ++ to_le_bytes w64 node ++ replicate 16 0 ++ rest) (omega arith)

-- the field of the opcode
pub opcode_field : (opcode id node : ℕ) (rest : List ℕ) → opcode < 2 ^ 32 → number (generated_message opcode id node rest) 4 4 ≡ opcode
unfolding generated_message
opcode_field opcode id node rest fits =
    number-append_right (to_le_bytes w32 (40 + length rest))
    (to_le_bytes w32 opcode ++ to_le_bytes w64 id ++ to_le_bytes w64 node ++ replicate 16 0 ++ rest) 0 4
    ∙ number-to_le_bytes_4 opcode (to_le_bytes w64 id ++ to_le_bytes w64 node ++ replicate 16 0 ++ rest) fits

-- header and body
whole_length : (opcode id node : ℕ) (rest : List ℕ) → length (generated_message opcode id node rest) ≡ 40 + length rest
unfolding generated_message
whole_length opcode id node rest = omega arith

chosen : (a b c : Bool) (x y z : RequestError) (f : Header) → a ≡ false → b ≡ false → c ≡ false
    → (if a then Err x else if b then Err y else if c then Err z else Ok f) ≡ Ok f
chosen true b c x y z f no_a no_b no_c = absurd (let no : ⊥ = cc in no)
chosen false true c x y z f no_a no_b no_c = absurd (let no : ⊥ = cc in no)
chosen false false true x y z f no_a no_b no_c = absurd (let no : ⊥ = cc in no)
chosen false false false x y z f no_a no_b no_c = refl

-- a header that counts itself and all that is there is good
good_header : (m : List ℕ) → 40 ≤ number m 0 4 → number m 0 4 ≤ length m → header m ≡ Ok (header_fields m)
good_header m itself there =
    chosen (nat_lt (length m) 40) (nat_lt (length m) (number m 0 4)) (nat_lt (number m 0 4) 40)
    (ShortReadHeader (length m)) (ShortRead (length m) (number m 0 4)) InsufficientData (header_fields m)
    (le-ltb (length m) 40 (omega (arith, itself, there))) (le-ltb (length m) (number m 0 4) there) (le-ltb (number m 0 4) 40 itself)

pub good_message : (opcode id node : ℕ) (rest : List ℕ) → length rest ≤ 64
    → header (generated_message opcode id node rest) ≡ Ok (header_fields (generated_message opcode id node rest))
good_message opcode id node rest short =
    good_header (generated_message opcode id node rest) (omega (arith, size_field opcode id node rest short))
    (omega (arith, size_field opcode id node rest short, whole_length opcode id node rest))

-- what a message is to the event loop is a matter of its opcode
incoming_message : (opcode id node : ℕ) (rest : List ℕ) → length rest ≤ 64 → opcode < 2 ^ 32
    → incoming (generated_message opcode id node rest) ≡ (if opcode == FUSE_DESTROY then Destroy else Request)
incoming_message opcode id node rest short fits =
    ap incoming_by (good_message opcode id node rest short)
    ∙ ap (λ (n : ℕ). if n == FUSE_DESTROY then Destroy else Request) (opcode_field opcode id node rest fits)

-- it is short, and the run goes on after it
abbrev pub Goes : List ℕ → Type 0
Goes m = (incoming m ≡ Request) × (length m ≤ 104)

goes : (opcode id node : ℕ) (rest : List ℕ) → length rest ≤ 64 → opcode < 2 ^ 32
    → (if opcode == FUSE_DESTROY then Destroy else Request) ≡ Request → Goes (generated_message opcode id node rest)
goes opcode id node rest short fits other =
    (incoming_message opcode id node rest short fits ∙ other, omega (arith, whole_length opcode id node rest))

pub read_length : (offset size : ℕ) → length (read_body offset size) ≡ 40
unfolding read_body
read_length offset size = refl

pub write_length : (bytes : List ℕ) → length (write_body bytes) ≡ 40 + length bytes
unfolding write_body
write_length bytes = omega arith

init_length : (major minor max_readahead : ℕ) → length (init_body major minor max_readahead) ≡ 64
unfolding init_body
init_length major minor max_readahead = refl

-- the run goes on after each request
pub request-goes : (id v w : ℕ) → Goes (request id v w)
request-goes id v w = by_tests (v % 8 == 0) (v % 8 == 1) (v % 8 == 2) (v % 8 == 3) (v % 8 == 4) (v % 8 == 5) (v % 8 == 6) where
  by_tests : (a b c d e f g : Bool) → Goes (
      if a then generated_message FUSE_LOOKUP id 1 (name_body (codes "hello.txt"))
      else if b then generated_message FUSE_LOOKUP id 1 (name_body (codes "none"))
      else if c then generated_message FUSE_GETATTR id (1 + w % 4) (replicate 16 0)
      else if d then generated_message FUSE_READ id 3 (read_body (w % 256) 100)
      else if e then generated_message FUSE_READDIR id 1 (read_body 0 4096)
      else if f then generated_message FUSE_FORGET id 2 (to_le_bytes w64 1)
      else if g then generated_message FUSE_WRITE id 2 (write_body (codes "hello"))
      else generated_message 7 id 1 [])
  by_tests true b c d e f g = goes FUSE_LOOKUP id 1 (name_body (codes "hello.txt")) (omega arith) (omega arith) refl
  by_tests false true c d e f g = goes FUSE_LOOKUP id 1 (name_body (codes "none")) (omega arith) (omega arith) refl
  by_tests false false true d e f g = goes FUSE_GETATTR id (1 + w % 4) (replicate 16 0) (omega arith) (omega arith) refl
  by_tests false false false true e f g =
      goes FUSE_READ id 3 (read_body (w % 256) 100) (omega (arith, read_length (w % 256) 100)) (omega arith) refl
  by_tests false false false false true f g = goes FUSE_READDIR id 1 (read_body 0 4096) (omega (arith, read_length 0 4096)) (omega arith) refl
  by_tests false false false false false true g = goes FUSE_FORGET id 2 (to_le_bytes w64 1) (omega arith) (omega arith) refl
  by_tests false false false false false false true =
      goes FUSE_WRITE id 2 (write_body (codes "hello")) (omega (arith, write_length (codes "hello"))) (omega arith) refl
  by_tests false false false false false false false = goes 7 id 1 [] (omega arith) (omega arith) refl

pub init_message-goes : Goes init_message
init_message-goes = goes FUSE_INIT 1 0 (init_body 7 40 131072) (omega (arith, init_length 7 40 131072)) (omega arith) refl

pub All-map : {A : Type 0} (P : List ℕ → Type 0) (f : A → List ℕ) (xs : List A) → ((x : A) → P (f x)) → AllByRecursion P (map f xs)
All-map P f [] each = tt
All-map P f (x ∷ xs) each = (each x, All-map P f xs each)

-- and so after INIT and all requests
pub front-goes : (seed count : ℕ) → AllByRecursion Goes (init_message ∷ requests seed count)
front-goes seed count = (
  init_message-goes,
  All-map Goes (request_at seed) (range_with_len 0 count)
      (λ place. request-goes (place + 2) (x_after seed (place + 1) / 65536) (x_after seed (place + 1) / 65536 / 8)),
)

-- DESTROY ends it
pub destroy_message-ends : (id : ℕ) → incoming (destroy_message id) ≡ Destroy
destroy_message-ends id = incoming_message FUSE_DESTROY id 0 [] (omega arith) (omega arith)

-- so short a message fits a receive buffer
pub fits-buffer : (m : List ℕ) → length m ≤ 104 → message m ≡ m
fits-buffer m short = take_all BUFFER_SIZE m (omega arith)

map-received : (ms : List (List ℕ)) → AllByRecursion Goes ms → map message ms ≡ ms
map-received [] each = refl
map-received (m ∷ ms) each =
    ap (λ (first : List ℕ). first ∷ map message ms) (fits-buffer m each.0.1) ∙ ap (λ (later : List (List ℕ)). m ∷ later) (map-received ms each.1)

map-received-last : (ms : List (List ℕ)) (last : List ℕ) → AllByRecursion Goes ms → length last ≤ 104
    → map message (ms ++ last ∷ []) ≡ ms ++ last ∷ []
map-received-last [] last each short = ap (λ (m : List ℕ). m ∷ []) (fits-buffer last short)
map-received-last (m ∷ ms) last each short =
    ap (λ (first : List ℕ). first ∷ map message (ms ++ last ∷ [])) (fits-buffer m each.0.1)
    ∙ ap (λ (later : List (List ℕ)). m ∷ later) (map-received-last ms last each.1 short)

-- the messages are received whole
pub stream-received : (seed count : ℕ) → map message (stream seed count) ≡ stream seed count
stream-received seed count =
    map-received-last (init_message ∷ requests seed count) (destroy_message (count + 2)) (front-goes seed count)
    (omega (arith, whole_length FUSE_DESTROY (count + 2) 0 []))

-- good headers up to DESTROY
good-until : (ms : List (List ℕ)) (last : List ℕ) → AllByRecursion Goes ms → incoming last ≡ Destroy → GoodHeaders (ms ++ last ∷ [])
good-until [] last each ends = inl ends
good-until (m ∷ ms) last each ends = inr (each.0.0, good-until ms last each.1 ends)

-- what INIT decodes to
init_message-decodes : operation 0 (header_fields init_message).opcode (body init_message)
    ≡ Ok (Init (record { major = 7; minor = 40; max_readahead = 131072; flags = 0; flags2 = 0 }))
unfolding generated_message init_body number decoding.init_to_bmap
init_message-decodes = refl

pub init_message-is : IsInit init_message (record { major = 7; minor = 40; max_readahead = 131072; flags = 0; flags2 = 0 })
init_message-is = record {
  head = header_fields init_message;
  good = good_message FUSE_INIT 1 0 (init_body 7 40 131072) (omega (arith, init_length 7 40 131072));
  decodes = init_message-decodes;
}

-- the stream opens well
stream-opens : (seed count : ℕ) → OpensWell (stream seed count)
stream-opens seed count = (
  record { major = 7; minor = 40; max_readahead = 131072; flags = 0; flags2 = 0 },
  init_message-is,
  inr (refl, omega arith, good-until (requests seed count) (destroy_message (count + 2)) (front-goes seed count).1 (destroy_message-ends (count + 2))),
)

stream-opens_at_least : (seed count : ℕ) → OpensAtLeast (stream seed count)
stream-opens_at_least seed count = (
  record { major = 7; minor = 40; max_readahead = 131072; flags = 0; flags2 = 0 },
  init_message-is,
  inr (refl, omega arith, tt),
)

-- nothing is amiss with the handshake
pub HandshakeWell-stream : (seed count : ℕ) (tree : Hello) (left : List (List ℕ))
    → HandshakeWell tree_may_init tree (messages_told (stream seed count)) (messages_told left)
HandshakeWell-stream seed count tree left = record {
  turns = stream seed count;
  told = refl;
  opens = subst OpensAtLeast (sym (stream-received seed count)) (stream-opens_at_least seed count);
  accepts = AcceptsAll-tree tree;
  unfailing = record { same = refl; counts = omega arith };
}

-- nothing is amiss where some thread is to serve
pub SessionWell-stream : (seed count threads : ℕ) (tree : Hello) (left : List (List ℕ)) → 0 < threads
    → SessionWell tree_may_init (Some threads) tree (messages_told (stream seed count)) (messages_told left)
SessionWell-stream seed count threads tree left some = record {
  turns = stream seed count;
  told = refl;
  opens_well = subst OpensWell (sym (stream-received seed count)) (stream-opens seed count);
  accepts = AcceptsAll-tree tree;
  served = λ is. some-not threads some is;
  unfailing = record { same = refl; counts = omega arith };
} where
  some-not : (n : ℕ) → 0 < n → Some n ≡ Some 0 → ⊥
  some-not n some is = let none : n ≡ 0 = cc in omega arith
