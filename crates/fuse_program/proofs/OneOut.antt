-- What the tree owes a message is one out, whatever the message's number, where its answer is held without memory. Each generated
-- message is such.
use Rattle.std.proofs.Common.{◌≡◌, ◌≤◌, ◌<◌, ◌+◌, ◌-◌, ◌/◌, ◌%◌, ◌^◌, ◌++◌, ◌==◌, ℕ, Bool, true, false, List, [], ◌∷◌, Option, None, Some}
use Rattle.std.proofs.Common.{Result, Ok, Err, refl, ap, sym, ◌∙◌, subst, arith, length, length-take, take, drop, codes, inl, inr, if◌then◌else◌}
use Rattle.std.specs.Int.{w64, to_le_bytes}
use Rattle.std.specs.List.{AllByRecursion, range_with_len}
use Rattle.std.specs.Prelude.{replicate}
use Rattle.std.proofs.lemmas.List.{take_all}
use Rattle.fuse_wire.specs.ErrorNumbers.{EACCES, ENOENT}
use Rattle.fuse_wire.specs.Numbers.{number}
use Rattle.fuse_wire.specs.Times.{nanos_per_second}
use Rattle.fuse_wire.specs.declared.file_attr.FileAttr.{FileAttr}
use Rattle.fuse_request.specs.Call.{Call, call}
use Rattle.fuse_request.specs.Call.Call.{Lookup, GetAttr, Read, Interrupt, ReadDir, Poll}
use Rattle.fuse_header.specs.Header.{header, header_fields, body, request_of}
use Rattle.fuse_header.specs.Opcode.{FUSE_LOOKUP, FUSE_FORGET, FUSE_GETATTR, FUSE_READ, FUSE_WRITE, FUSE_READDIR, FUSE_DESTROY}
use Rattle.fuse_request.specs.Decoding as decoding
use Rattle.fuse_request.specs.Operation.{Op}
use Rattle.fuse_request.specs.Decoding.{operation}
use Rattle.fuse_header.specs.declared.header.Header.{Header}
use Rattle.fuse_header.specs.declared.error.RequestError.{RequestError}
use Rattle.fuse_header.specs.declared.request.Request.{Request}
use Rattle.fuse_reply.specs.Answer.{Answer, IsLong}
use Rattle.fuse_reply.specs.Answer.Answer.{Empty, Error, Directory}
use Rattle.fuse_reply.specs.Frame.{reply}
use Rattle.fuse_reply.specs.Listing.{DirEntry, fitting}
use Rattle.fuse_reply.specs.Reply.{RepliesWith}
use Rattle.fuse_reply.specs.Sizes.{inline_size}
use Rattle.fuse_reply.specs.declared.out.Out.{Out}
use Rattle.fuse_reply.specs.declared.out.Out.TheVariants.{Frame, Note}
use Rattle.fuse_config.specs.declared.session_acl.SessionACL.TheVariants.{All}
use Rattle.fuse_config.specs.Configuration.{granted_of, start}
use Rattle.fuse_config.specs.Values.{Configuration}
use Rattle.fuse_wire.specs.declared.flags.init_flags.InitFlags.{InitFlags}
use Rattle.fuse_request.specs.InitOperation.{offered}
use Rattle.fuse_dispatch.specs.declared.access.Terms.{Terms}
use Rattle.fuse_loop.specs.Incoming.{id_of}
use Rattle.fuse_dispatch.specs.Found.{found_attributes, found_entry}
use Rattle.fuse_dispatch.specs.OwedMessage.{HonoursCall, IsPoll, OwedByPromise, OwedBy, OwedCall}
use Rattle.fuse_dispatch.specs.Verdict.{Verdict, admitted, admitted_operation, asking, fixed_error, fixed_or, is_forget, terms, serving, verdict, verdict_by}
use Rattle.fuse_dispatch.specs.Verdict.Verdict.{Broken, Ends, Fixed, Forgets, Calls}
use Rattle.fuse_hello.specs.Generated.{destroy_message, generated_message, name_body, read_body, request, request_at, requests, write_body, x_after}
use Rattle.fuse_hello.specs.Tree.{tree_bytes, contents, members, tree_named, node_attr, tree_answer, tree_mark, tree_promise}
use Rattle.fuse_hello.specs.declared.hello.Hello.{Hello}
use Rattle.fuse_program.proofs.Messages.{All-map, good_message, opcode_field, size_field, read_length, write_length}

-- a call whose answer is never ENOMEM: no poll, and no READ of more bytes than are held without memory
abbrev pub Small : Call → Type 0
Small (Read ino fh offset size flags lock_owner) = size ≤ inline_size
Small (Poll ino fh kh events flags) = ⊥
Small c = Unit {0}

not-poll : (c : Call) → Small c → ¬ (IsPoll c)
not-poll (Poll ino fh kh events flags) small poll = small
not-poll c small poll = poll

entry-short : (found : Option FileAttr) → ¬ (IsLong (found_entry nanos_per_second found))
entry-short None long = long
entry-short (Some attr) long = long

attributes-short : (found : Option FileAttr) → ¬ (IsLong (found_attributes nanos_per_second found))
attributes-short None long = long
attributes-short (Some attr) long = long

tree_bytes-short : (offset size : ℕ) (found : Option (List ℕ)) → size ≤ inline_size → ¬ (IsLong (tree_bytes offset size found))
tree_bytes-short offset size None small long = long
tree_bytes-short offset size (Some all) small long = omega (arith, length-take size (drop offset all))

listed-short : (b : Bool) (entries : List DirEntry) → ¬ (IsLong (if b then Directory entries else Error ENOENT))
listed-short true entries long = long
listed-short false entries long = long

not-long : (c : Call) → Small c → ¬ (IsLong (tree_answer c))
not-long (Lookup parent name) small long = entry-short (if parent == 1 then tree_named name else None) long
not-long (GetAttr ino fh) small long = attributes-short (node_attr ino) long
not-long (Read ino fh offset size flags lock_owner) small long = tree_bytes-short offset size (contents ino) small long
not-long (ReadDir ino fh offset size) small long = listed-short (ino == 1) (fitting size 0 (drop offset members)) long
not-long c small long = long

-- the verdict lets the tree be asked no other call
abbrev pub Short : Verdict → Type 0
Short (Calls c) = Small c
Short v = Unit {0}

abbrev pub mark_or_0 : Option ℕ → ℕ
mark_or_0 None = 0
mark_or_0 (Some mark) = mark

-- what the tree owes, by the verdict and the id; what stands for a broken message is owed to none
abbrev pub out_by : (id : ℕ) → Verdict → Out
out_by id (Broken e) = Frame []
out_by id Ends = Frame (reply id Empty)
out_by id (Fixed errno) = Frame (reply id (Error errno))
out_by id (Forgets c) = Note (record { 0 = id }) (mark_or_0 (tree_mark c))
out_by id (Calls c) = Frame (reply id (tree_answer c))

-- what the stream's INIT offers
abbrev pub stream_offered : ℕ
stream_offered = offered (record { major = 7; minor = 40; max_readahead = 131072; flags = 0; flags2 = 0 })

-- the tree leaves the configuration as it is offered, and this is granted
abbrev pub stream_config : Configuration
stream_config = start stream_offered 131072 (record { 0 = 7; 1 = 40 })

abbrev pub stream_granted : InitFlags
stream_granted = record { 0 = granted_of stream_config stream_offered }

abbrev pub stream_terms : Terms
stream_terms = terms All 0 stream_granted

abbrev pub out_of : List ℕ → Out
out_of m = out_by (id_of m) (verdict stream_terms m)

replied : (c : Call) (id : ℕ) (out : Out) (a : Answer) → Small c → tree_answer c ≡ a → RepliesWith id a out
    → out ≡ Frame (reply id (tree_answer c))
replied c id out a small is (inl framed) = framed ∙ ap (λ (x : Answer). Frame (reply id x)) (sym is)
replied c id out a small is (inr starved) = absurd (not-long c small (subst IsLong (sym is) starved.0))

-- the tree honours no interrupt
never-honoured : (tree : Hello) (request : Request) (c : Call) (id : ℕ) (out : Out) → HonoursCall tree_promise.may_honour tree request c id out → ⊥
never-honoured tree request (Interrupt target) id out honoured = honoured.0
never-honoured tree request c id out honoured = honoured

called : (tree : Hello) (request : Request) (c : Call) (seq id : ℕ) (out : Out) → Small c
    → OwedCall tree_promise tree request c seq id out → out ≡ Frame (reply id (tree_answer c))
called tree request c seq id out small (inl answered) = replied c id out answered.answer small answered.allowed.allowed answered.replies
called tree request c seq id out small (inr (inl poll)) = absurd (not-poll c small poll.0)
called tree request c seq id out small (inr (inr (inl later))) = absurd (let deferred = later.0 in let no : ⊥ = cc in no)
called tree request c seq id out small (inr (inr (inr honoured))) = absurd (never-honoured tree request c id out honoured)

owed_by : (tree : Hello) (request : Request) (v : Verdict) (seq id : ℕ) (out : Out) → Short v
    → OwedBy tree_promise tree request v seq id out → out ≡ out_by id v
owed_by tree request (Broken e) seq id out short owed = absurd owed
owed_by tree request Ends seq id out short owed = owed
owed_by tree request (Fixed errno) seq id out short owed = owed
owed_by tree request (Forgets c) seq id out short owed =
    owed.2 ∙ ap (λ (mark : Option ℕ). Note (record { 0 = id }) (mark_or_0 mark)) (sym owed.1)
owed_by tree request (Calls c) seq id out short owed = called tree request c seq id out short owed

-- what the tree owes a message is one
abbrev pub IsOwedOne : List ℕ → Type 0
IsOwedOne m = (tree : Hello) (seq : ℕ) (out : Out) → OwedByPromise tree_promise tree stream_terms seq m out → out ≡ out_of m

pub one-out : (m : List ℕ) → Short (verdict stream_terms m) → IsOwedOne m
one-out m short tree seq out owed = owed_by tree (request_of (header_fields m)) (verdict stream_terms m) seq (id_of m) out short owed

-- an operation on a node makes no other call
abbrev AsksSmall : Option Call → Type 0
AsksSmall None = Unit {0}
AsksSmall (Some c) = Small c

abbrev IsSmall : (node : ℕ) → Result Op RequestError → Type 0
IsSmall node (Err e) = Unit {0}
IsSmall node (Ok op) = AsksSmall (call node op)

asked : (fixed : Option ℕ) (forget : Bool) (c : Option Call) → AsksSmall c → Short (fixed_or fixed (asking forget c))
asked (Some errno) forget c small = tt
asked None forget None small = tt
asked None true (Some c) small = tt
asked None false (Some c) small = small

admitted-short : (node : ℕ) (op : Op) (admits : Bool) → AsksSmall (call node op) → Short (serving node (if admits then Ok op else Err EACCES))
admitted-short node op true small = asked (fixed_error op) (is_forget op) (call node op) small
admitted-short node op false small = tt

decoded-short : (h : Header) (node : ℕ) (found : Result Op RequestError) → IsSmall node found
    → Short (serving node (admitted_operation stream_terms.rule h found))
decoded-short h node (Err e) small = tt
decoded-short h node (Ok op) small = admitted-short node op (admitted All 0 h.uid h.opcode) small

verdict-short : (m : List ℕ) → header m ≡ Ok (header_fields m) → IsSmall (number m 16 8) (operation stream_granted.0 (number m 4 4) (body m))
    → Short (verdict stream_terms m)
verdict-short m good small =
    subst (λ (h : Result Header RequestError). Short (verdict_by stream_terms h (body m))) (sym good) (by_test (number m 4 4 == FUSE_DESTROY))
  where
    by_test : (destroys : Bool) → Short (
        if destroys then Ends
        else serving (number m 16 8) (admitted_operation stream_terms.rule (header_fields m) (operation stream_granted.0 (number m 4 4) (body m))))
    by_test true = tt
    by_test false = decoded-short (header_fields m) (number m 16 8) (operation stream_granted.0 (number m 4 4) (body m)) small

-- what stands after the header
after_header : (opcode id node : ℕ) (rest : List ℕ) → drop 40 (generated_message opcode id node rest) ≡ rest
unfolding generated_message
after_header opcode id node rest = refl

body-generated_message : (opcode id node : ℕ) (rest : List ℕ) → length rest ≤ 64 → body (generated_message opcode id node rest) ≡ rest
body-generated_message opcode id node rest short =
    ap (λ (n : ℕ). take (n - 40) (drop 40 (generated_message opcode id node rest))) (size_field opcode id node rest short)
    ∙ (ap (λ (b : List ℕ). take (40 + length rest - 40) b) (after_header opcode id node rest)
    ∙ take_all (40 + length rest - 40) rest (omega arith))

generated_message-short : (opcode id node : ℕ) (rest : List ℕ) → length rest ≤ 64 → opcode < 2 ^ 32 → ((n : ℕ) → IsSmall n (operation stream_granted.0 opcode rest))
    → Short (verdict stream_terms (generated_message opcode id node rest))
generated_message-short opcode id node rest short fits small =
    verdict-short m (good_message opcode id node rest short)
    (subst (λ (o : ℕ). IsSmall (number m 16 8) (operation stream_granted.0 o (body m))) (sym (opcode_field opcode id node rest fits))
    (subst (λ (b : List ℕ). IsSmall (number m 16 8) (operation stream_granted.0 opcode b)) (sym (body-generated_message opcode id node rest short))
    (small (number m 16 8))))
  where
    m : List ℕ
    m = generated_message opcode id node rest

-- what each kind of request decodes to
found-small : (n : ℕ) → IsSmall n (operation stream_granted.0 FUSE_LOOKUP (name_body (codes "hello.txt")))
unfolding decoding.lookup_to_link
found-small n = tt

missed-small : (n : ℕ) → IsSmall n (operation stream_granted.0 FUSE_LOOKUP (name_body (codes "none")))
unfolding decoding.lookup_to_link
missed-small n = tt

getattr-small : (n : ℕ) → IsSmall n (operation stream_granted.0 FUSE_GETATTR (replicate 16 0))
unfolding decoding.lookup_to_link
getattr-small n = tt

read-small : (offset n : ℕ) → IsSmall n (operation stream_granted.0 FUSE_READ (read_body offset 100))
unfolding decoding.open_to_flush read_body number
read-small offset n = omega arith

readdir-small : (n : ℕ) → IsSmall n (operation stream_granted.0 FUSE_READDIR (read_body 0 4096))
unfolding decoding.init_to_bmap read_body
readdir-small n = tt

forget-small : (n : ℕ) → IsSmall n (operation stream_granted.0 FUSE_FORGET (to_le_bytes w64 1))
unfolding decoding.lookup_to_link
forget-small n = tt

write-small : (n : ℕ) → IsSmall n (operation stream_granted.0 FUSE_WRITE (write_body (codes "hello")))
unfolding decoding.open_to_flush write_body number
write-small n = tt

unknown-small : (n : ℕ) → IsSmall n (operation stream_granted.0 7 [])
unfolding decoding.lookup_to_link
unknown-small n = tt

destroy_message-small : (n : ℕ) → IsSmall n (operation stream_granted.0 FUSE_DESTROY [])
unfolding decoding.destroy_to_cuse_init
destroy_message-small n = tt

-- each request is owed one out
request-short : (id v w : ℕ) → Short (verdict stream_terms (request id v w))
request-short id v w = by_tests (v % 8 == 0) (v % 8 == 1) (v % 8 == 2) (v % 8 == 3) (v % 8 == 4) (v % 8 == 5) (v % 8 == 6) where
  by_tests : (a b c d e f g : Bool) → Short (verdict stream_terms (
      if a then generated_message FUSE_LOOKUP id 1 (name_body (codes "hello.txt"))
      else if b then generated_message FUSE_LOOKUP id 1 (name_body (codes "none"))
      else if c then generated_message FUSE_GETATTR id (1 + w % 4) (replicate 16 0)
      else if d then generated_message FUSE_READ id 3 (read_body (w % 256) 100)
      else if e then generated_message FUSE_READDIR id 1 (read_body 0 4096)
      else if f then generated_message FUSE_FORGET id 2 (to_le_bytes w64 1)
      else if g then generated_message FUSE_WRITE id 2 (write_body (codes "hello"))
      else generated_message 7 id 1 []))
  by_tests true b c d e f g = generated_message-short FUSE_LOOKUP id 1 (name_body (codes "hello.txt")) (omega arith) (omega arith) found-small
  by_tests false true c d e f g = generated_message-short FUSE_LOOKUP id 1 (name_body (codes "none")) (omega arith) (omega arith) missed-small
  by_tests false false true d e f g = generated_message-short FUSE_GETATTR id (1 + w % 4) (replicate 16 0) (omega arith) (omega arith) getattr-small
  by_tests false false false true e f g =
      generated_message-short FUSE_READ id 3 (read_body (w % 256) 100) (omega (arith, read_length (w % 256) 100)) (omega arith) (read-small (w % 256))
  by_tests false false false false true f g =
      generated_message-short FUSE_READDIR id 1 (read_body 0 4096) (omega (arith, read_length 0 4096)) (omega arith) readdir-small
  by_tests false false false false false true g = generated_message-short FUSE_FORGET id 2 (to_le_bytes w64 1) (omega arith) (omega arith) forget-small
  by_tests false false false false false false true =
      generated_message-short FUSE_WRITE id 2 (write_body (codes "hello")) (omega (arith, write_length (codes "hello"))) (omega arith) write-small
  by_tests false false false false false false false = generated_message-short 7 id 1 [] (omega arith) (omega arith) unknown-small

destroy_message-short : (id : ℕ) → Short (verdict stream_terms (destroy_message id))
destroy_message-short id = generated_message-short FUSE_DESTROY id 0 [] (omega arith) (omega arith) destroy_message-small

-- all messages after INIT
abbrev pub later : (seed count : ℕ) → List (List ℕ)
later seed count = requests seed count ++ destroy_message (count + 2) ∷ []

All-last : (P : List ℕ → Type 0) (ms : List (List ℕ)) (last : List ℕ) → AllByRecursion P ms → P last → AllByRecursion P (ms ++ last ∷ [])
All-last P [] last each one = (one, tt)
All-last P (m ∷ ms) last each one = (each.0, All-last P ms last each.1 one)

pub later-one : (seed count : ℕ) → AllByRecursion IsOwedOne (later seed count)
later-one seed count =
    All-last IsOwedOne (requests seed count) (destroy_message (count + 2))
    (All-map IsOwedOne (request_at seed) (range_with_len 0 count) (λ place.
    one-out (request_at seed place)
    (request-short (place + 2) (x_after seed (place + 1) / 65536) (x_after seed (place + 1) / 65536 / 8))))
    (one-out (destroy_message (count + 2)) (destroy_message-short (count + 2)))
