-- What is handed on, parcel by parcel.
use Rattle.std.proofs.Common.{◌≡◌, ◌∙◌, ◌++◌, ℕ, List, [], ◌∷◌, Option, None, Some, IfSome}
use Rattle.std.proofs.Common.{Bool, true, ap, append-nil, append_assoc, inl, inr, map, refl, subst, sym}
use Rattle.std.specs.List.{AllByRecursion}
use Rattle.std.proofs.lemmas.List.{map-append}
use Rattle.fuse_wire.specs.Source.{SourceState}
use Rattle.fuse_wire.specs.Sink.{Note}
use Rattle.fuse_wire.specs.declared.newtypes.RequestId.{RequestId}
use Rattle.fuse_line.specs.Hand.{hand, with_taken}
use Rattle.fuse_line.specs.declared.hand.Hand.{Hand}
use Rattle.fuse_line.specs.declared.hand.Kind.TheVariants.{Inner}
use Rattle.fuse_reply.specs.Late.{LateSeen}
use Rattle.fuse_reply.specs.declared.out.Out.{Out}
use Rattle.fuse_reply.specs.declared.out.Out.TheVariants.{Frame, Note as Noting, Deferred}
use Rattle.fuse_reply.specs.declared.out.OutEnd.{OutEnd}
use Rattle.fuse_reply.specs.declared.out.OutEnd.TheVariants.{Written, Noted, Lost, Marked}
use Rattle.fuse_reply.specs.Deliver.{Delivers, NoNotice}
use Rattle.fuse_reply.specs.declared.parcel.Parcel.{Parcel}
use Rattle.fuse_reply.specs.declared.parcel.Parcel.TheVariants.{Prompt, Notice, Late}
use Rattle.fuse_core.specs.Book.{EachWaiting, IsBookOf, tagged}
use Rattle.fuse_loop.specs.Lines.{late_in, lates_in, notices_in}
use Rattle.fuse_core.specs.Marks.{late_tag}
use Rattle.fuse_core.specs.AreMatched.{Tag}
use Rattle.fuse_workers.specs.Pairing.{Parts, outs_of}
use Rattle.fuse_loop.specs.Progress.{LeavesOut, Moves, OutletState, counting, progress}
use Rattle.fuse_workers.specs.Relays.{HandsEach, IsLateReply, IsRelayed, RelayState, Relays, SendsLate, SendsOut, SendsParcel, TakesLate}
use Rattle.fuse_workers.specs.Relays.{is_own, late_out, with_tag}
use Rattle.fuse_core.specs.declared.book.Book.{Book}
use Rattle.fuse_loop.proofs.FrameLines.{notices-append}
use Rattle.fuse_loop.proofs.ItemLists.{All-append}
use Rattle.fuse_core.proofs.Matching.{same_self}
use Rattle.fuse_loop.proofs.Moving.{LeavesOut-append, Moves-frame, Moves-none, Moves-note, Moves-notice, Moves-refused, Moves-then}
use Rattle.fuse_workers.proofs.Pairing.{Parts-append, Parts-framed, Parts-lost, Parts-noted, outs_of-append}

-- the late frames of two lists
pub lates-append : (xs ys : List Parcel) → lates_in (xs ++ ys) ≡ lates_in xs ++ lates_in ys
lates-append [] ys = refl
lates-append (x ∷ xs) ys = ap (λ (l : List LateSeen). late_in x ++ l) (lates-append xs ys) ∙ sym (append_assoc (late_in x) (lates_in xs) (lates_in ys))

-- what goes out of a late frame that was let go
abbrev pub gone_out : Tag × LateSeen → Out
gone_out l = late_out l.1

-- the book of equal lists
booked-same : {b : Book LateSeen} {ms ms' : List Tag} {cs cs' gs gs' : List (Tag × LateSeen)} → ms ≡ ms' → cs ≡ cs' → gs ≡ gs'
    → IsBookOf b ms cs gs → IsBookOf b ms' cs' gs'
booked-same {b} p q r book =
    subst (λ (l : List Tag × List (Tag × LateSeen) × List (Tag × LateSeen)). IsBookOf b l.0 l.1 l.2) (λ i. (p i, q i, r i)) book

-- nothing came into the book
booked-none : (a b : Book LateSeen) → b ≡ a → (ms : List Tag) (came gone : List (Tag × LateSeen)) → IsBookOf a ms came gone
    → IsBookOf b (ms ++ []) (came ++ []) (gone ++ [])
booked-none a b same ms came gone book =
    booked-same (sym (append-nil ms)) (sym (append-nil came)) (sym (append-nil gone))
    (subst (λ (x : Book LateSeen). IsBookOf x ms came gone) (sym same) book)

-- nothing that is handed on leaves what was taken off the line of notices otherwise than it is
same-notices : {fs : List (List ℕ)} {ns : List Note} {ls : List Out} (source : SourceState) (unasked : List (List ℕ)) (a b : OutletState)
    → Moves 0 fs ns ls (progress source a.sink a.counts unasked) (progress source b.sink b.counts unasked)
    → Moves 0 fs ns ls (progress source a.sink a.counts unasked) (progress source b.sink b.counts (unasked ++ []))
same-notices {fs} {ns} {ls} source unasked a b moved =
    subst (λ (u : List (List ℕ)). Moves 0 fs ns ls (progress source a.sink a.counts unasked) (progress source b.sink b.counts u))
    (sym (append-nil unasked)) moved

-- nothing was handed to the sink
still : (source : SourceState) (unasked : List (List ℕ)) (a b : OutletState) → b ≡ a
    → Moves 0 [] [] [] (progress source a.sink a.counts unasked) (progress source b.sink b.counts (unasked ++ []))
still source unasked a b same = same-notices source unasked a b (Moves-none (record {
  sink = ap (λ (o : OutletState). o.sink) same;
  counts = ap (λ (o : OutletState). o.counts) same;
  unasked = refl;
}))

-- these parcels were handed on one after the other, and then those
HandsEach-append : (xs ys : List Parcel) (a b c : RelayState) → HandsEach xs a b → HandsEach ys b c → HandsEach (xs ++ ys) a c
HandsEach-append [] ys a b c first second = subst (λ (s : RelayState). HandsEach ys s c) first second
HandsEach-append (x ∷ xs) ys a b c first second = (first.0, first.1, HandsEach-append xs ys first.0 b c first.2 second)

-- nothing was handed on
pub Relays-none : (a : RelayState) → Relays [] a a
Relays-none a = record {
  each = refl;
  outs = [];
  gone = [];
  mixed = (refl, refl);
  replies = tt;
  own = λ waiting. (waiting, tt);
  sent = [];
  notes = [];
  marks = [];
  lost = [];
  parts = (refl, refl, refl, refl);
  booked = booked-none a.book a.book refl;
  moved = λ source unasked. still source unasked a.outlet a.outlet refl;
}

-- these parcels, and then those
pub Relays-then : (xs ys : List Parcel) (a b c : RelayState) → Relays xs a b → Relays ys b c → Relays (xs ++ ys) a c
Relays-then xs ys a b c first second = record {
  each = HandsEach-append xs ys a b c first.each second.each;
  outs = first.outs ++ second.outs;
  gone = first.gone ++ second.gone;
  mixed = subst (λ (l : List Out). LeavesOut l (first.outs ++ second.outs) (outs_of (xs ++ ys))) (sym (map-append gone_out first.gone second.gone))
      (subst (λ (l : List Out). LeavesOut (map gone_out first.gone ++ map gone_out second.gone) (first.outs ++ second.outs) l) (sym (outs_of-append xs ys))
      (LeavesOut-append (map gone_out first.gone) (map gone_out second.gone) first.outs second.outs (outs_of xs) (outs_of ys) first.mixed second.mixed));
  replies = All-append (λ (l : Tag × LateSeen). IsLateReply l.1) first.gone second.gone first.replies second.replies;
  own = λ waiting.
      let f = first.own waiting in
      let s = second.own f.0 in (s.0, All-append (λ (l : Tag × LateSeen). is_own l.0 l.1 ≡ true) first.gone second.gone f.1 s.1);
  sent = first.sent ++ second.sent;
  notes = first.notes ++ second.notes;
  marks = first.marks ++ second.marks;
  lost = first.lost ++ second.lost;
  parts = Parts-append first.outs second.outs first.sent second.sent first.notes second.notes first.marks second.marks first.lost second.lost
      first.parts second.parts;
  booked = λ ms came gone book.
      booked-same (append_assoc ms first.marks second.marks)
      (append_assoc came (map with_tag (lates_in xs)) (map with_tag (lates_in ys)) ∙ ap (λ (l : List (Tag × LateSeen)). came ++ l) (sym late))
      (append_assoc gone first.gone second.gone)
      (second.booked (ms ++ first.marks) (came ++ map with_tag (lates_in xs)) (gone ++ first.gone) (first.booked ms came gone book));
  moved = λ source unasked.
      subst (λ (u : List (List ℕ)). Moves 0 (first.sent ++ second.sent) (first.notes ++ second.notes) (first.lost ++ second.lost)
      (progress source a.outlet.sink a.outlet.counts unasked) (progress source c.outlet.sink c.outlet.counts u))
      (append_assoc unasked (notices_in xs) (notices_in ys) ∙ ap (λ (l : List (List ℕ)). unasked ++ l) (sym (notices-append xs ys)))
      (Moves-then (first.moved source unasked) (second.moved source (unasked ++ notices_in xs)));
} where
  late : map with_tag (lates_in (xs ++ ys)) ≡ map with_tag (lates_in xs) ++ map with_tag (lates_in ys)
  late = ap (λ (l : List LateSeen). map with_tag l) (lates-append xs ys) ∙ map-append with_tag (lates_in xs) (lates_in ys)

-- something was handed to the sink once, which is a frame or a note, or was lost
record Handing (out : Out) (a b : OutletState) : Type 0 where
  sent : List (List ℕ)
  notes : List Note
  lost : List Out
  parts : Parts (out ∷ []) sent notes [] lost
  moved : (source : SourceState) (unasked : List (List ℕ))
      → Moves 0 sent notes lost (progress source a.sink a.counts unasked) (progress source b.sink b.counts (unasked ++ []))

-- a frame
handing-frame : (f : List ℕ) (a b : OutletState) (end : OutEnd) → Delivers end (Frame f) a.sink b.sink → b.counts ≡ counting end a.counts
    → NoNotice (Frame f) → Handing (Frame f) a b
handing-frame f a b Written d e reply = record {
  sent = f ∷ [];
  notes = [];
  lost = [];
  parts = Parts-framed f;
  moved = λ source unasked. same-notices source unasked a b (Moves-frame _ _ reply d e refl);
}
handing-frame f a b Noted d e reply = absurd d
handing-frame f a b Lost d e reply = record {
  sent = [];
  notes = [];
  lost = Frame f ∷ [];
  parts = Parts-lost (Frame f);
  moved = λ source unasked. same-notices source unasked a b (Moves-refused _ _ reply d.0 d.1 e refl);
}
handing-frame f a b Marked d e reply = absurd d

-- a note
handing-note : (id : RequestId) (mark : ℕ) (a b : OutletState) (end : OutEnd) → Delivers end (Noting id mark) a.sink b.sink → b.counts ≡ counting end a.counts
    → Handing (Noting id mark) a b
handing-note id mark a b Written d e = absurd d
handing-note id mark a b Noted d e = record {
  sent = [];
  notes = (id.0, mark) ∷ [];
  lost = [];
  parts = Parts-noted id mark;
  moved = λ source unasked. same-notices source unasked a b (Moves-note _ _ d e refl);
}
handing-note id mark a b Lost d e = record {
  sent = [];
  notes = [];
  lost = Noting id mark ∷ [];
  parts = Parts-lost (Noting id mark);
  moved = λ source unasked. same-notices source unasked a b (Moves-refused _ _ refl d.0 d.1 e refl);
}
handing-note id mark a b Marked d e = absurd d

-- the late frame that was let go, where there is one, was handed to the sink
record LettingGo (tag : Tag) (go : Option LateSeen) (a b : OutletState) : Type 0 where
  outs : List Out
  mixed : LeavesOut (map gone_out (tagged tag go)) outs []
  replies : AllByRecursion (λ l. IsLateReply l.1) (tagged tag go)
  sent : List (List ℕ)
  notes : List Note
  lost : List Out
  parts : Parts outs sent notes [] lost
  moved : (source : SourceState) (unasked : List (List ℕ))
      → Moves 0 sent notes lost (progress source a.sink a.counts unasked) (progress source b.sink b.counts (unasked ++ []))

letting-go : (tag : Tag) (go : Option LateSeen) (a b : OutletState) → SendsLate go a b → LettingGo tag go a b
letting-go tag None a b same = record {
  outs = [];
  mixed = (refl, refl);
  replies = tt;
  sent = [];
  notes = [];
  lost = [];
  parts = (refl, refl, refl, refl);
  moved = λ source unasked. still source unasked a b same;
}
letting-go tag (Some late) a b sends =
    let once = sends.0 in
    let handing = handing-frame late.frame a b once.end once.delivered once.counts once.reply in
    record {
      outs = late_out late ∷ [];
      mixed = inr ([], refl, (refl, refl));
      replies = (sends.1, tt);
      sent = handing.sent;
      notes = handing.notes;
      lost = handing.lost;
      parts = handing.parts;
      moved = handing.moved;
    }

-- the book as it was
own-same : (a b : Book LateSeen) → b ≡ a → EachWaiting is_own a → EachWaiting is_own b × Unit {0}
own-same a b same waiting = (subst (λ (x : Book LateSeen). EachWaiting is_own x) (sym same) waiting, tt)

-- the frame that was let go
own-go : (tag : Tag) (go : Option LateSeen) (b : Book LateSeen) → EachWaiting is_own b × IfSome go (λ l. is_own tag l ≡ true)
    → EachWaiting is_own b × AllByRecursion (λ l. is_own l.0 l.1 ≡ true) (tagged tag go)
own-go tag None b h = (h.0, tt)
own-go tag (Some late) b h = (h.0, (h.1, tt))

-- a late frame came into the book under its tag
pub TakesLate-by : (late : LateSeen) (tag : Tag) (go : Option LateSeen) (a b : Book LateSeen) → tag ≡ late_tag late
    → ((marks : List Tag) (came gone : List (Tag × LateSeen)) → IsBookOf a marks came gone
    → IsBookOf b marks (came ++ (tag, late) ∷ []) (gone ++ tagged tag go))
    → ((test : Tag → LateSeen → Bool) → test tag late ≡ true → EachWaiting test a → EachWaiting test b × IfSome go (λ l. test tag l ≡ true))
    → TakesLate late go a b
TakesLate-by late tag go a b is keeps own = record {
  booked = λ marks came gone book.
      subst (λ (t : Tag). IsBookOf b marks (came ++ (t, late) ∷ []) (gone ++ tagged t go)) is (keeps marks came gone book);
  own = subst (λ (t : Tag). EachWaiting is_own a → EachWaiting is_own b × IfSome go (λ l. is_own t l ≡ true)) is
      (own is_own (subst (λ (t : Tag). is_own t late ≡ true) (sym is) (same_self (late_tag late))));
}

-- what is handed to the sink at once, with no mark and no late frame
at_once : (seq : ℕ) (out : Out) (a b : RelayState) → SendsOut out a b → Handing out a.outlet b.outlet → b.book ≡ a.book
    → Relays (Prompt seq out ∷ []) a b
at_once seq out a b sends handing same = record {
  each = (b, sends, refl);
  outs = out ∷ [];
  gone = [];
  mixed = inl ([], refl, (refl, refl));
  replies = tt;
  own = own-same a.book b.book same;
  sent = handing.sent;
  notes = handing.notes;
  marks = [];
  lost = handing.lost;
  parts = handing.parts;
  booked = booked-none a.book b.book same;
  moved = handing.moved;
}

-- what goes out for a message
pub Relays-out : (seq : ℕ) (out : Out) (a b : RelayState) → SendsOut out a b → Relays (Prompt seq out ∷ []) a b
Relays-out seq (Frame f) a b sends =
    let once = sends.0 in at_once seq (Frame f) a b sends (handing-frame f a.outlet b.outlet once.end once.delivered once.counts once.reply) sends.1
Relays-out seq (Noting id mark) a b sends =
    let once = sends.0 in at_once seq (Noting id mark) a b sends (handing-note id mark a.outlet b.outlet once.end once.delivered once.counts) sends.1
Relays-out seq (Deferred number id) a b sends =
    let tag : Tag = (number, id.0) in
    let lets = letting-go tag sends.0 a.outlet b.outlet sends.2 in
    record {
      each = (b, sends, refl);
      outs = Deferred number id ∷ lets.outs;
      gone = tagged tag sends.0;
      mixed = inl ([], refl, lets.mixed);
      replies = lets.replies;
      own = λ waiting. own-go tag sends.0 b.book (sends.1.own waiting);
      sent = lets.sent;
      notes = lets.notes;
      marks = tag ∷ [];
      lost = lets.lost;
      parts = inr (inr (inl (tag, [], refl, refl, lets.parts)));
      booked = λ ms came gone book. booked-same refl (sym (append-nil came)) refl (sends.1.booked ms came gone book);
      moved = lets.moved;
    }

-- one parcel
pub Relays-one : (parcel : Parcel) (a b : RelayState) → SendsParcel parcel a b → Relays (parcel ∷ []) a b
Relays-one (Prompt seq out) a b sends = Relays-out seq out a b sends
Relays-one (Notice frame) a b sends = record {
  each = (b, sends, refl);
  outs = [];
  gone = [];
  mixed = (refl, refl);
  replies = tt;
  own = own-same a.book b.book sends.1;
  sent = [];
  notes = [];
  marks = [];
  lost = [];
  parts = (refl, refl, refl, refl);
  booked = booked-none a.book b.book sends.1;
  moved = λ source unasked. Moves-notice sends.0.sending frame _ _ sends.0.in_range sends.0.aside sends.0.sent sends.0.counts refl;
}
Relays-one (Late late) a b sends =
    let tag : Tag = late_tag late in
    let lets = letting-go tag sends.0 a.outlet b.outlet sends.2 in
    record {
      each = (b, sends, refl);
      outs = lets.outs;
      gone = tagged tag sends.0;
      mixed = lets.mixed;
      replies = lets.replies;
      own = λ waiting. own-go tag sends.0 b.book (sends.1.own waiting);
      sent = lets.sent;
      notes = lets.notes;
      marks = [];
      lost = lets.lost;
      parts = lets.parts;
      booked = λ ms came gone book. booked-same (sym (append-nil ms)) refl refl (sends.1.booked ms came gone book);
      moved = lets.moved;
    }

-- the sender's pass, with one parcel more
pub IsRelayed-next : (v : Hand Parcel) (parcel : Parcel) (a b c : RelayState) → IsRelayed v a b → SendsParcel parcel b c
    → IsRelayed (with_taken v parcel) a c
IsRelayed-next v parcel a b c so_far sends = record {
  kind = so_far.kind;
  no_put = so_far.no_put;
  relays = Relays-then v.taken (parcel ∷ []) a b c so_far.relays (Relays-one parcel b c sends);
}

pub IsRelayed-none : (a : RelayState) → IsRelayed (hand Inner 0 [] []) a a
IsRelayed-none a = record { kind = refl; no_put = refl; relays = Relays-none a }
