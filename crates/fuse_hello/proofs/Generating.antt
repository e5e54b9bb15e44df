-- The front of a generated stream, and what comes after it.
use Rattle.std.proofs.Common.{◌≡◌, ◌+◌, ◌*◌, ◌%◌, ◌^◌, ◌<◌, ◌≤◌, ℕ, suc, Bool, false, List, [], ◌∷◌, ◌++◌, refl, ap, sym, ◌∙◌, subst, arith}
use Rattle.std.proofs.Common.{append_assoc, append-nil, take, drop}
use Rattle.std.specs.List.{concat}
use Rattle.std.proofs.lemmas.List.{take-append-drop}
use Rattle.std.proofs.lemmas.List.Folds.{concat-append}
use Rattle.std.proofs.lemmas.List.FromFn.{map-range_with_len_more, take-map-range_with_len}
use Rattle.fuse_wire.specs.ByteSink.{ByteSinkState, PutsBytes}
use Rattle.fuse_wire.specs.StreamSink.{WritesAll}
use Rattle.fuse_wire.proofs.Devices.{PutsBytes-then}
use Rattle.fuse_wire.proofs.StreamLaws.{WritesAll-append, WritesAll-front}
use Rattle.fuse_hello.specs.Generated.{stream, init_message, destroy_message, requests, request_at, generated_request, x_after}

-- x begins as the seed
pub x-none : (seed : ℕ) → seed ≡ x_after seed 0
unfolding x_after
x-none seed = refl

-- the x of the next request
pub x-next : (seed place x next : ℕ) → x ≡ x_after seed place → next ≡ (x * 1103515245 + 12345) % 2 ^ 31 → next ≡ x_after seed (place + 1)
unfolding x_after
x-next seed place x next is more =
    let after : suc place ≡ place + 1 = omega arith in
    more ∙ ap (λ (n : ℕ). (n * 1103515245 + 12345) % 2 ^ 31) is ∙ ap (x_after seed) after

-- and that request
pub request-is : (seed place id x : ℕ) (bytes : List ℕ) → x ≡ x_after seed (place + 1) → id ≡ place → bytes ≡ generated_request (id + 2) x
    → bytes ≡ request_at seed place
request-is seed place id x bytes is same given =
    given ∙ ap (λ (n : ℕ). generated_request (n + 2) x) same ∙ ap (generated_request (place + 2)) is

-- INIT and the first requests
abbrev pub front : (seed place : ℕ) → List (List ℕ)
front seed place = init_message ∷ requests seed place

-- none of them yet
pub front-none : (seed : ℕ) → concat (front seed 0) ≡ init_message
front-none seed = append-nil init_message

-- one more request
pub front-one_more : (seed place : ℕ) → front seed (place + 1) ≡ front seed place ++ request_at seed place ∷ []
front-one_more seed place =
    ap (λ (later : List (List ℕ)). init_message ∷ later) (map-range_with_len_more (request_at seed) 0 place place (omega arith))

pub front-next : (seed place : ℕ) → concat (front seed (place + 1)) ≡ concat (front seed place) ++ request_at seed place
front-next seed place =
    ap (λ (later : List (List ℕ)). init_message ++ concat later) (map-range_with_len_more (request_at seed) 0 place place (omega arith))
    ∙ ap (λ (later : List ℕ). init_message ++ later)
    (concat-append (requests seed place) (request_at seed place ∷ [])
    ∙ ap (λ (last : List ℕ). concat (requests seed place) ++ last) (append-nil (request_at seed place)))
    ∙ sym (append_assoc init_message (concat (requests seed place)) (request_at seed place))

-- all of them, and DESTROY
pub stream-front : (seed count : ℕ) → concat (stream seed count) ≡ concat (front seed count) ++ destroy_message (count + 2)
stream-front seed count =
    concat-append (front seed count) (destroy_message (count + 2) ∷ [])
    ∙ ap (λ (last : List ℕ). concat (front seed count) ++ last) (append-nil (destroy_message (count + 2)))

-- what comes after the first requests
abbrev after : (seed count place : ℕ) → List ℕ
after seed count place = concat (drop place (requests seed count)) ++ destroy_message (count + 2)

stream-split : (seed count place : ℕ) → place ≤ count → concat (stream seed count) ≡ concat (front seed place) ++ after seed count place
stream-split seed count place within =
    stream-front seed count
    ∙ ap (λ (later : List ℕ). (init_message ++ later) ++ destroy_message (count + 2)) parts
    ∙ ap (λ (bytes : List ℕ). bytes ++ destroy_message (count + 2)) (sym (append_assoc init_message (concat (requests seed place)) rest))
    ∙ append_assoc (concat (front seed place)) rest (destroy_message (count + 2))
  where
    rest : List ℕ
    rest = concat (drop place (requests seed count))

    parts : concat (requests seed count) ≡ concat (requests seed place) ++ rest
    parts =
        ap concat (sym (take-append-drop place (requests seed count)))
        ∙ concat-append (take place (requests seed count)) (drop place (requests seed count))
        ∙ ap (λ (first : List (List ℕ)). concat first ++ rest) (take-map-range_with_len (request_at seed) 0 count place within)

-- a request was written after those before it
pub request-written : (seed place : ℕ) (bytes : List ℕ) (before middle after : ByteSinkState)
    → PutsBytes (concat (front seed place)) before middle → bytes ≡ request_at seed place → PutsBytes bytes middle after
    → PutsBytes (concat (front seed (place + 1))) before after
request-written seed place bytes before middle after' put is more =
    subst (λ (put : List ℕ). PutsBytes put before after')
    (ap (λ (last : List ℕ). concat (front seed place) ++ last) is ∙ sym (front-next seed place))
    (PutsBytes-then (concat (front seed place)) bytes before middle after' put more)

-- a request was not written whole
pub request-lost : (seed count place : ℕ) (request : List ℕ) (before middle after : ByteSinkState) → place < count
    → PutsBytes (concat (front seed place)) before middle → request ≡ request_at seed place → WritesAll false request middle after
    → WritesAll false (concat (stream seed count)) before after
request-lost seed count place request before middle after' within put is lost =
    subst (λ (bytes : List ℕ). WritesAll false bytes before after')
    (ap (λ (last : List ℕ). (concat (front seed place) ++ last) ++ after seed count (place + 1)) is
    ∙ ap (λ (bytes : List ℕ). bytes ++ after seed count (place + 1)) (sym (front-next seed place))
    ∙ sym (stream-split seed count (place + 1) (omega arith)))
    (WritesAll-front (concat (front seed place) ++ request) (after seed count (place + 1)) before after'
    (WritesAll-append false (concat (front seed place)) request before middle after' put lost))

-- the end of the stream
pub stream-ends : (done : Bool) (seed count id : ℕ) (bytes : List ℕ) (before middle after : ByteSinkState)
    → PutsBytes (concat (front seed count)) before middle → id ≡ count → bytes ≡ destroy_message (id + 2) → WritesAll done bytes middle after
    → WritesAll done (concat (stream seed count)) before after
stream-ends done seed count id bytes before middle after' put same is last =
    subst (λ (all : List ℕ). WritesAll done all before after')
    (ap (λ (end : List ℕ). concat (front seed count) ++ end) (is ∙ ap (λ (n : ℕ). destroy_message (n + 2)) same) ∙ sym (stream-front seed count))
    (WritesAll-append done (concat (front seed count)) bytes before middle after' put last)
