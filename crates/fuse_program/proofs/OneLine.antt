-- The replies and the notes of a generated stream are the same up to order, whoever serves it. So its summary is one.
use Rattle.std.proofs.Common.{◌≡◌, ◌++◌, ℕ, cond, zero, suc, true, List, [], ◌∷◌, Some, Result, Ok, Err, pos}
use Rattle.std.proofs.Common.{sym, ap, ◌∙◌, subst, arith, inl, inr, length, remove, slice_get, filter, flat_map, sum_by}
use Rattle.std.specs.List.{AllByRecursion, concat}
use Rattle.std.specs.List.Sorted.{IsPermutation}
use Rattle.std.proofs.lemmas.List.Concat.{concat_is, length-flat_map}
use Rattle.std.proofs.lemmas.List.Sorted.{IsPermutation-cons, IsPermutation-middle, IsPermutation-refl, IsPermutation-sym, IsPermutation-trans}
use Rattle.std.proofs.lemmas.List.Sorted.{length_permutation, sum_by-IsPermutation}
use Rattle.std.proofs.lemmas.List.Sums.{length-filter}
use Rattle.std.proofs.lemmas.Option.{same_Some}
use Rattle.fuse_wire.specs.ByteSink.{ByteSinkState}
use Rattle.fuse_wire.specs.Sink.{Note as Noted}
use Rattle.fuse_wire.specs.StreamSink.{WritesAll}
use Rattle.fuse_header.specs.Header.{body}
use Rattle.fuse_header.specs.declared.header.Header.{Header}
use Rattle.fuse_header.specs.declared.error.RequestError.{RequestError}
use Rattle.fuse_reply.specs.Frame.{frame}
use Rattle.fuse_reply.specs.declared.out.Out.{Out}
use Rattle.fuse_reply.specs.declared.out.Out.TheVariants.{Frame, Note, Deferred}
use Rattle.fuse_wire.specs.declared.flags.init_flags.InitFlags.{InitFlags}
use Rattle.fuse_config.specs.Configuration.{granted_of, init_payload}
use Rattle.fuse_config.specs.Values.{Configuration}
use Rattle.fuse_config.specs.declared.session_acl.SessionACL.TheVariants.{All}
use Rattle.fuse_loop.specs.Incoming.{IsBroken}
use Rattle.fuse_core.specs.OnePerMessage.{OnePerMessage, Owing}
use Rattle.fuse_session.specs.Handshake.{Greets, Handshake, NegotiationReply}
use Rattle.fuse_session.specs.Handshake.{greeting, greeting_by_header, greeting_by_operation, offer_of}
use Rattle.fuse_session.specs.Handshake.HandshakeEnd.{Accepted}
use Rattle.fuse_dispatch.specs.OwedMessage.{OwedByPromise}
use Rattle.fuse_dispatch.specs.Verdict.{terms}
use Rattle.fuse_hello.specs.Generated.{init_message, stream}
use Rattle.fuse_hello.specs.Store.{is_error, line, summary_of}
use Rattle.fuse_program.specs.Load.{AnsweredByTree, Loads, SameStream, Summarizes, WritesOneLine}
use Rattle.fuse_hello.specs.Tree.{tree_may_init, tree_promise}
use Rattle.fuse_program.specs.declared.arguments.LoadForm.{LoadForm}
use Rattle.fuse_hello.specs.declared.hello.Hello.{Hello}
use Rattle.fuse_hello.specs.declared.summary.Summary.{Summary}
use Rattle.fuse_program.proofs.Messages.{init_message-is}
use Rattle.fuse_program.proofs.OneOut.{IsOwedOne, later, later-one, out_of, stream_config, stream_granted, stream_offered, stream_terms}

-- a list is the item at some place and the others, up to order
taken : {X : Type 0} (xs : List X) (i : ℕ) (x : X) → slice_get xs i ≡ Some x → IsPermutation xs (x ∷ remove xs i)
taken [] i x at = absurd (let no : ⊥ = cc in no)
taken (y ∷ ys) zero x at = subst (λ z. IsPermutation (y ∷ ys) (z ∷ ys)) (same_Some y x at) (IsPermutation-refl (y ∷ ys))
taken (y ∷ ys) (suc i) x at =
    IsPermutation-trans (y ∷ ys) (y ∷ x ∷ remove ys i) (x ∷ y ∷ remove ys i)
    (IsPermutation-cons y ys (x ∷ remove ys i) (taken ys i x at)) (IsPermutation-middle (y ∷ []) x (remove ys i))

-- the same, where the others are these
taken_of : {X : Type 0} (xs : List X) (i : ℕ) (x : X) (others : List X) → slice_get xs i ≡ Some x → IsPermutation (remove xs i) others
    → IsPermutation xs (x ∷ others)
taken_of xs i x others at rest = IsPermutation-trans xs (x ∷ remove xs i) (x ∷ others) (taken xs i x at) (IsPermutation-cons x (remove xs i) others rest)

-- what an out adds to the frames, and to the notes
abbrev frames_in : Out → List (List ℕ)
frames_in (Frame f) = f ∷ []
frames_in (Note id mark) = []
frames_in (Deferred seq id) = []

abbrev notes_in : Out → List Noted
notes_in (Frame f) = []
notes_in (Note id mark) = (id.0, mark) ∷ []
notes_in (Deferred seq id) = []

-- Where each message is owed one out and nothing was lost, frames and notes are those of these outs, up to order.
module _ (owed : Owing) (broken : List ℕ → Type 0) (out : List ℕ → Out) where
  abbrev OwesOne : List ℕ → Type 0
  OwesOne m = (seq : ℕ) (o : Out) → owed seq m o → o ≡ out m

  abbrev all_frames : List (List ℕ) → List (List ℕ)
  all_frames ms = flat_map (λ m. frames_in (out m)) ms

  abbrev all_notes : List (List ℕ) → List Noted
  all_notes ms = flat_map (λ m. notes_in (out m)) ms

  abbrev InSomeOrder : (messages frames : List (List ℕ)) → List Noted → Type 0
  InSomeOrder ms frames notes = IsPermutation frames (all_frames ms) × IsPermutation notes (all_notes ms)

  in_some_order : (place : ℕ) (ms frames : List (List ℕ)) (notes : List Noted) → AllByRecursion OwesOne ms
      → OnePerMessage owed broken place ms frames notes [] 0 → InSomeOrder ms frames notes
  in_some_order place [] frames notes each done = (
    subst (λ (l : List (List ℕ)). IsPermutation l []) (sym done.0) (IsPermutation-refl []),
    subst (λ (l : List Noted). IsPermutation l []) (sym done.1) (IsPermutation-refl []),
  )
  in_some_order place (m ∷ ms) frames notes each (inl p) =
      let rest = in_some_order (suc place) ms (remove frames p.0) notes each.1 p.4 in
      subst (λ (o : Out). IsPermutation frames (frames_in o ++ all_frames ms) × IsPermutation notes (notes_in o ++ all_notes ms))
      (each.0 _ (Frame p.1) p.3) (taken_of frames p.0 p.1 (all_frames ms) p.2 rest.0, rest.1)
  in_some_order place (m ∷ ms) frames notes each (inr (inl p)) =
      let rest = in_some_order (suc place) ms frames (remove notes p.0) each.1 p.4 in
      subst (λ (o : Out). IsPermutation frames (frames_in o ++ all_frames ms) × IsPermutation notes (notes_in o ++ all_notes ms))
      (each.0 _ (Note (record { 0 = p.1.0 }) p.1.1) p.3) (rest.0, taken_of notes p.0 p.1 (all_notes ms) p.2 rest.1)
  in_some_order place (m ∷ ms) frames notes each (inr (inr (inl p))) = absurd (let none = p.2 in let no : ⊥ = cc in no)
  in_some_order place (m ∷ ms) frames notes each (inr (inr (inr p))) = absurd (omega (arith, p.1))

-- the reply to the stream's INIT, where this was negotiated
abbrev reply_of : Configuration → List ℕ
reply_of config = frame init_message-is.head.unique.0 (pos 0) (init_payload config config.offered config.kernel_abi.1 4096)

-- the tree leaves it as it is offered
abbrev init_reply : List ℕ
init_reply = reply_of stream_config

-- the handshake's one reply, and what was granted
abbrev Granted : (frames : List (List ℕ)) → InitFlags → Type 0
Granted frames granted = (frames ≡ init_reply ∷ []) × (granted ≡ stream_granted)

same-granted : (g h : InitFlags) → Accepted g ≡ Accepted h → g ≡ h
same-granted g h is = cc

by_result : (config : Configuration) (result : Result (Unit {0}) ℕ) (frames : List (List ℕ)) (granted : InitFlags)
    → result ≡ Ok tt
    → NegotiationReply init_message-is.head.unique.0 (offer_of (record { major = 7; minor = 40; max_readahead = 131072; flags = 0; flags2 = 0 })) 4096 config result frames (Accepted granted)
    → config ≡ stream_config → Granted frames granted
by_result config (Err e) frames granted ok reply is = absurd (let no : ⊥ = cc in no)
by_result config (Ok u) frames granted ok reply is = (
  reply.0 ∙ ap (λ (c : Configuration). frame init_message-is.head.unique.0 (pos 0) (init_payload c stream_offered 40 4096) ∷ []) is,
  same-granted granted (record { 0 = granted_of config stream_offered }) reply.1
      ∙ ap (λ (c : Configuration). record { 0 = granted_of c stream_offered }) is,
)

-- what follows the stream's INIT does not belong to the handshake
greets : (tree tree1 : Hello) (ms frames : List (List ℕ)) (granted : InitFlags) (more : List (List ℕ) → Type 0)
    → Greets tree_may_init 4096 tree (greeting init_message) ms frames tree1 (Accepted granted) more → Granted frames granted × (ms ≡ [])
greets tree tree1 ms frames granted more shake =
    let offers =
    subst (λ g. Greets tree_may_init 4096 tree g ms frames tree1 (Accepted granted) more)
    (ap (λ (h : Result Header RequestError). greeting_by_header h (body init_message)) init_message-is.good
    ∙ ap (greeting_by_operation init_message-is.head) init_message-is.decodes) shake in
    (by_result offers.1.config offers.1.result frames granted offers.1.allowed.0 offers.1.replies offers.1.allowed.1, offers.0)

shaken : (tree tree1 : Hello) (others hs ls frames : List (List ℕ)) (granted : InitFlags) → init_message ∷ others ≡ hs ++ ls
    → Handshake tree_may_init 4096 tree hs frames tree1 (Accepted granted) → Granted frames granted × (ls ≡ others)
shaken tree tree1 others [] ls frames granted heard shake = absurd (let open_end = shake.2 in let no : ⊥ = cc in no)
shaken tree tree1 others (h ∷ hs) ls frames granted heard shake = (done.0, sym (rest ∙ ap (λ (l : List (List ℕ)). l ++ ls) done.1)) where
  first : h ≡ init_message
  first = cc heard

  rest : others ≡ hs ++ ls
  rest = cc heard

  done : Granted frames granted × (hs ≡ [])
  done =
      greets tree tree1 hs frames granted (λ more. Handshake tree_may_init 4096 tree hs more tree1 (Accepted granted))
      (subst (λ (m : List ℕ). Handshake tree_may_init 4096 tree (m ∷ hs) frames tree1 (Accepted granted)) first shake)

-- the frames and notes of a stream are these, up to order
abbrev Ordered : (seed count : ℕ) → (frames : List (List ℕ)) → List Noted → Type 0
Ordered seed count frames notes =
    IsPermutation frames (init_reply ∷ flat_map (λ m. frames_in (out_of m)) (later seed count))
    × IsPermutation notes (flat_map (λ m. notes_in (out_of m)) (later seed count))

All-at : {P Q : List ℕ → Type 0} (ms : List (List ℕ)) → ((m : List ℕ) → P m → Q m) → AllByRecursion P ms → AllByRecursion Q ms
All-at [] f each = tt
All-at (m ∷ ms) f each = (f m each.0, All-at ms f each.1)

later_order : (tree : Hello) (seed count : ℕ) (frames : List (List ℕ)) (notes : List Noted)
    → OnePerMessage (OwedByPromise tree_promise tree stream_terms) IsBroken 0 (later seed count) frames notes [] 0
    → InSomeOrder (OwedByPromise tree_promise tree stream_terms) IsBroken out_of (later seed count) frames notes
later_order tree seed count frames notes one_per_message =
    in_some_order (OwedByPromise tree_promise tree stream_terms) IsBroken out_of 0 (later seed count) frames notes
    (All-at {P = IsOwedOne} {Q = OwesOne (OwedByPromise tree_promise tree stream_terms) IsBroken out_of} (later seed count) (λ m one. one tree) (later-one seed count))
    one_per_message

ordered : (seed count : ℕ) (frames : List (List ℕ)) (notes : List Noted) → AnsweredByTree (stream seed count) frames notes → Ordered seed count frames notes
ordered seed count frames notes a =
    let first = shaken a.tree a.tree1 (later seed count) a.hs a.ls a.handshake_replies a.granted a.heard a.handshake in
    let order = later_order a.tree1 seed count a.later_replies notes
    (subst (λ (granted : InitFlags). OnePerMessage (OwedByPromise tree_promise a.tree1 (terms All 0 granted)) IsBroken 0 (later seed count)
    a.later_replies notes [] 0) first.0.1
    (subst (λ (ls : List (List ℕ)). OnePerMessage (OwedByPromise tree_promise a.tree1 (terms All 0 a.granted)) IsBroken 0 ls
    a.later_replies notes [] 0) first.1 a.one_per_message)) in (
      subst (λ (l : List (List ℕ)). IsPermutation l (init_reply ∷ flat_map (λ m. frames_in (out_of m)) (later seed count)))
          (sym (a.said ∙ ap (λ (l : List (List ℕ)). l ++ a.later_replies) first.0.0))
          (IsPermutation-cons init_reply a.later_replies (flat_map (λ m. frames_in (out_of m)) (later seed count)) order.0),
      order.1,
    )

-- any two answers to a stream have the same replies and notes, up to order
pub AnsweredByTree-order : (seed count : ℕ) (frames others : List (List ℕ)) (notes noted : List Noted)
    → AnsweredByTree (stream seed count) frames notes → AnsweredByTree (stream seed count) others noted
    → IsPermutation frames others × IsPermutation notes noted
AnsweredByTree-order seed count frames others notes noted a b =
    let p = ordered seed count frames notes a in
    let q = ordered seed count others noted b in (
      IsPermutation-trans frames _ others p.0 (IsPermutation-sym others _ q.0),
      IsPermutation-trans notes _ noted p.1 (IsPermutation-sym noted _ q.1),
    )

-- a summary does not see the order
length-concat : (fs : List (List ℕ)) → length (concat fs) ≡ sum_by (λ f. length f) fs
length-concat fs = ap (λ (l : List ℕ). length l) (concat_is fs) ∙ length-flat_map (λ (f : List ℕ). f) fs

abbrev with_counts : (messages frames notes errors bytes : ℕ) → Summary
with_counts messages frames notes errors bytes = record { messages = messages; frames = frames; notes = notes; errors = errors; bytes = bytes }

summary_of-order : (messages : ℕ) (frames others : List (List ℕ)) (notes noted : List Noted) → IsPermutation frames others → IsPermutation notes noted
    → summary_of messages frames (length notes) ≡ summary_of messages others (length noted)
summary_of-order messages frames others notes noted p q =
    λ i. with_counts messages (counted i) (noted_count i) (failed i) (sizes i)
  where
    counted : length frames ≡ length others
    counted = sym (length_permutation frames others p)

    noted_count : length notes ≡ length noted
    noted_count = sym (length_permutation notes noted q)

    failed : length (filter is_error frames) ≡ length (filter is_error others)
    failed =
        length-filter is_error frames
        ∙ (sym (sum_by-IsPermutation (λ (f : List ℕ). cond (is_error f) 1 0) frames others p) ∙ sym (length-filter is_error others))

    sizes : length (concat frames) ≡ length (concat others)
    sizes = length-concat frames ∙ (sym (sum_by-IsPermutation (λ (f : List ℕ). length f) frames others p) ∙ sym (length-concat others))

abbrev IsSummary : (seed count : ℕ) → Summary → Type 0
IsSummary seed count summary =
    (frames : List (List ℕ)) × (notes : List Noted) × AnsweredByTree (stream seed count) frames notes
    × (summary ≡ summary_of (length (stream seed count)) frames (length notes))

-- the summary of a stream is one, whatever the numbers of threads
pub Summarizes-one : (form other : LoadForm) (summary another : Summary) → SameStream form other → Summarizes form summary → Summarizes other another
    → summary ≡ another
Summarizes-one form other summary another same s t =
    let u = subst (λ (p : ℕ × ℕ). IsSummary p.0 p.1 another) (λ i. (sym same.0 i, sym same.1 i)) t in
    let order = AnsweredByTree-order form.seed form.count s.0 u.0 s.1 u.1 s.2 u.2 in
    s.3 ∙ (summary_of-order (length (stream form.seed form.count)) s.0 u.0 s.1 u.1 order.0 order.1 ∙ sym u.3)

-- with the status 0 the line of each summary was written, since there is one
pub WritesOneLine-loads : (form : LoadForm) (exit : ℕ) (output output' : ByteSinkState) → exit ≡ 0 → Loads form exit output output'
    → WritesOneLine form output output'
WritesOneLine-loads form exit output output' ok (inl written) other another same summarizes =
    let wrote = written.1.1 in
    subst (λ (s : Summary). WritesAll true (line s) output output') (Summarizes-one form other wrote.0 another same wrote.1 summarizes) wrote.2
WritesOneLine-loads form exit output output' ok (inr (inl torn)) other another same summarizes = absurd (omega (arith, ok, torn.0))
WritesOneLine-loads form exit output output' ok (inr (inr (inl starved))) other another same summarizes = absurd (omega (arith, ok, starved.0))
WritesOneLine-loads form exit output output' ok (inr (inr (inr unserved))) other another same summarizes = absurd (omega (arith, ok, unserved.0))
