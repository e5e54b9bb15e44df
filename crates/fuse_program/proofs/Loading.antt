-- The generated messages, served from memory: what that comes to, and that nothing is amiss with it.
use Rattle.std.proofs.Common.{◌≡◌, ◌≢◌, ◌⊎◌, ◌<◌, ◌+◌, ◌^◌, ◌++◌, ℕ, List, [], ◌∷◌, Some, Ok, Err, inl, inr, refl, ap, sym, ◌∙◌, arith}
use Rattle.std.proofs.Common.{zero, suc, length, map, min, append-nil, length-append}
use Rattle.std.specs.List.{AllByRecursion, range_with_len}
use Rattle.std.proofs.lemmas.List.{length-map, map-append}
use Rattle.std.proofs.lemmas.List.FromFn.{length-range_with_len}
use Rattle.fuse_wire.specs.Faults.{last_count}
use Rattle.fuse_wire.specs.Sink.{Note}
use Rattle.fuse_wire.specs.Source.{message}
use Rattle.fuse_config.specs.declared.session_acl.SessionACL.TheVariants.{All}
use Rattle.fuse_session.specs.Exchange.{Exchange, Mounted, setup_of}
use Rattle.fuse_session.specs.SessionEnd.{Outcome}
use Rattle.fuse_session.specs.Headline.{Headline}
use Rattle.fuse_loop.specs.Incoming.{EndsAfter, EndsWell, Incoming, incoming}
use Rattle.fuse_loop.specs.Incoming.Incoming.{Broken, Destroy, Request}
use Rattle.fuse_loop.specs.Progress.{nothing_yet, progress, replies}
use Rattle.fuse_session.specs.declared.error.SessionError.{SessionError}
use Rattle.fuse_session.specs.declared.error.SessionError.TheVariants as session
use Rattle.fuse_loop.specs.declared.transcript.Transcript.{Transcript}
use Rattle.fuse_hello.specs.Generated.{destroy_message, init_message, request_at, requests, stream}
use Rattle.fuse_hello.specs.Store.{Stored, messages_told, stored_told, summary_of}
use Rattle.fuse_program.specs.Load.{AnsweredByTree, IsNoLine, Summarizes}
use Rattle.fuse_hello.specs.Tree.{tree_promise}
use Rattle.fuse_program.specs.declared.arguments.LoadForm.{LoadForm}
use Rattle.fuse_hello.specs.declared.hello.Hello.{Hello}
use Rattle.fuse_hello.specs.declared.summary.Summary.{Summary}
use Rattle.fuse_program.proofs.Messages.{Goes, fits-buffer, front-goes, stream-received}

-- a store that holds nothing
abbrev pub empty : Stored
empty = record { frames = []; notes = []; starved = 0 }

-- a session over the stream
abbrev pub Loaded : (form : LoadForm) (tree tree' : Hello) (o : Outcome) (left : List (List ℕ)) (k : Stored) (v : Transcript) → Type 0
Loaded form tree tree' o left k v =
    Mounted (setup_of tree_promise 4096 (Some form.threads) All 0) tree tree' o (messages_told (stream form.seed form.count)) (messages_told left)
    (stored_told empty) (stored_told k) v

-- how many messages there are
stream-length : (seed count : ℕ) → length (stream seed count) ≡ count + 2
stream-length seed count =
    omega (
      arith,
      length-append (requests seed count) (destroy_message (count + 2) ∷ []),
      length-map (range_with_len 0 count) (request_at seed),
      length-range_with_len 0 count,
    )

-- why the stream has no summary
pub failure-causes : (e : SessionError) (o : Outcome) (threads : ℕ) → o ≡ Err e
    → (0 < threads → (o ≡ Ok tt) ⊎ (o ≡ Err session.Memory)) → (threads ≡ 0 → (o ≡ Err session.Threads) ⊎ (o ≡ Err session.Memory))
    → IsNoLine e threads
failure-causes e o threads is complete unserved = by_threads threads refl where
  served : (o ≡ Ok tt) ⊎ (o ≡ Err session.Memory) → IsNoLine e threads
  served (inl ok) = absurd (let no : ⊥ = cc in no)
  served (inr no_memory) = inl (let same : e ≡ session.Memory = cc in same)

  not_served : threads ≡ 0 → (o ≡ Err session.Threads) ⊎ (o ≡ Err session.Memory) → IsNoLine e threads
  not_served no_thread (inl none) = inr (let same : e ≡ session.Threads = cc in same, no_thread)
  not_served no_thread (inr no_memory) = inl (let same : e ≡ session.Memory = cc in same)

  by_threads : (n : ℕ) → threads ≡ n → IsNoLine e threads
  by_threads zero none = not_served none (unserved none)
  by_threads (suc n) some = served (complete (omega (arith, some)))

-- messages of which the last alone is DESTROY were all taken, where those taken end well
goes-on : (i : Incoming) (more : List (List ℕ)) (rest : Type 0) → i ≡ Request → EndsAfter i more rest → rest
goes-on (Broken e) more rest is ends = absurd ends
goes-on Destroy more rest is ends = absurd (let no : ⊥ = cc in no)
goes-on Request more rest is ends = ends

tail-nil : (m last : List ℕ) (xs ys : List (List ℕ)) → last ∷ [] ≡ m ∷ (xs ++ ys) → ys ≡ []
tail-nil m last [] ys is = let same : [] ≡ ys = cc in sym same
tail-nil m last (x ∷ xs) ys is = absurd (let no : ⊥ = cc in no)

later-whole : (front : List (List ℕ)) (last : List ℕ) (ls left : List (List ℕ)) → AllByRecursion Goes front
    → front ++ last ∷ [] ≡ ls ++ left → EndsWell (map message ls) (left ≡ []) → left ≡ []
later-whole front last [] left each is ends = ends
later-whole [] last (m ∷ ls) left each is ends = tail-nil m last ls left is
later-whole (f ∷ front) last (m ∷ ls) left each is ends =
    let first : m ≡ f = cc in
    let rest : front ++ last ∷ [] ≡ ls ++ left = cc in
    let goes : incoming (message m) ≡ Request =
    ap (λ (x : List ℕ). incoming (message x)) first ∙ (ap incoming (fits-buffer f each.0.1) ∙ each.0.0) in
    later-whole front last ls left each.1 rest (goes-on (incoming (message m)) (map message ls) (EndsWell (map message ls) (left ≡ [])) goes ends)

all-taken : (front : List (List ℕ)) (last : List ℕ) (hs ls left : List (List ℕ)) → AllByRecursion Goes front
    → front ++ last ∷ [] ≡ (hs ++ ls) ++ left → EndsWell (map message ls) (left ≡ []) → left ≡ []
all-taken front last [] ls left each is ends = later-whole front last ls left each is ends
all-taken [] last (h ∷ hs) ls left each is ends = tail-nil h last (hs ++ ls) left is
all-taken (f ∷ front) last (h ∷ hs) ls left each is ends =
    let rest : front ++ last ∷ [] ≡ (hs ++ ls) ++ left = cc in
    all-taken front last hs ls left each.1 rest ends

-- some thread served, where the outcome is well
some-thread : (n : ℕ) → Some n ≢ Some 0 → 0 < n
some-thread zero served = absurd (served refl)
some-thread (suc n) served = omega arith

-- the stream has this summary, where the session ends well and nothing was lost
pub Summarizes-ok : (form : LoadForm) (tree tree' : Hello) (left : List (List ℕ)) (k : Stored) (v : Transcript) (summary : Summary)
    → form.count < 2 ^ 32
    → Headline tree_promise 4096 All 0 tree (messages_told (stream form.seed form.count)) (messages_told left) (stored_told empty) (stored_told k)
    → Loaded form tree tree' (Ok tt) left k v → summary ≡ summary_of v.received (replies k.frames) (length k.notes)
    → (0 < form.threads) × Summarizes form summary
Summarizes-ok form tree tree' left k v summary few h mounted is = (
  some-thread form.threads x.dialogue.ended.0.1,
  (h.handshake_replies ++ h.later_replies, h.notes, answers, is ∙ counts),
)
  where
    x : Exchange (setup_of tree_promise 4096 (Some form.threads) All 0) tree mounted.fs1 (Ok tt)
        (progress (messages_told (stream form.seed form.count)) (stored_told empty) nothing_yet [])
        (progress (messages_told left) (stored_told k) v mounted.unasked)
    x = mounted.exchange

    taken : stream form.seed form.count ≡ (h.hs ++ h.ls) ++ left
    taken = let some : Some (stream form.seed form.count) ≡ Some ((h.hs ++ h.ls) ++ left) = h.taken.turns in cc

    none_left : left ≡ []
    none_left =
        all-taken (init_message ∷ requests form.seed form.count) (destroy_message (form.count + 2)) h.hs h.ls left
        (front-goes form.seed form.count) taken h.ended

    all : stream form.seed form.count ≡ h.hs ++ h.ls
    all = taken ∙ (ap (λ (rest : List (List ℕ)). (h.hs ++ h.ls) ++ rest) none_left ∙ append-nil (h.hs ++ h.ls))

    turns : x.turns ≡ stream form.seed form.count
    turns =
        let some : Some (stream form.seed form.count) ≡ Some (x.turns ++ left) = (x.taken (λ no. let absurdly : ⊥ = cc in absurdly)).turns in
        let same : stream form.seed form.count ≡ x.turns ++ left = cc in
        sym (same ∙ (ap (λ (rest : List (List ℕ)). x.turns ++ rest) none_left ∙ append-nil x.turns))

    received_all : v.received ≡ length (stream form.seed form.count)
    received_all =
        let at_end : v.received ≡ min (0 + length x.turns) last_count = ap (λ (w : Transcript). w.received) (x.moved.counts 0 0 0 0 refl) in
        let long : length x.turns ≡ length (stream form.seed form.count) = ap (λ (ms : List (List ℕ)). length ms) turns in
        omega (arith, at_end, long, stream-length form.seed form.count, few)

    appended : k.frames ≡ h.appended
    appended = let some : Some k.frames ≡ Some h.appended = h.written.framed in cc

    noted : k.notes ≡ h.notes
    noted = let some : Some k.notes ≡ Some h.notes = h.written.noted in cc

    answers : AnsweredByTree (stream form.seed form.count) (h.handshake_replies ++ h.later_replies) h.notes
    answers = record {
      tree = tree;
      tree1 = h.fs1;
      granted = h.granted;
      hs = map message h.hs;
      ls = map message h.ls;
      handshake_replies = h.handshake_replies;
      later_replies = h.later_replies;
      heard = sym (stream-received form.seed form.count) ∙ (ap (map message) all ∙ map-append message h.hs h.ls);
      said = refl;
      handshake = h.handshake;
      one_per_message = h.one_per_message;
    }

    counts : summary_of v.received (replies k.frames) (length k.notes)
        ≡ summary_of (length (stream form.seed form.count)) (h.handshake_replies ++ h.later_replies) (length h.notes)
    counts =
        ap (λ (n : ℕ). summary_of n (replies k.frames) (length k.notes)) received_all
        ∙ (ap (λ (fs : List (List ℕ)). summary_of (length (stream form.seed form.count)) fs (length k.notes)) (ap replies appended ∙ h.replied)
        ∙ ap (λ (ns : List Note). summary_of (length (stream form.seed form.count)) (h.handshake_replies ++ h.later_replies) (length ns)) noted)
