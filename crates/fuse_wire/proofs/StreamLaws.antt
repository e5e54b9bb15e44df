-- How the stream below a sink stands, at the start, after a frame and after a write that failed.
use Rattle.std.proofs.Common.{◌≡◌, ℕ, ◌+◌, ◌<◌, ◌≤◌, Bool, true, false, Option, None, Some, List, [], ◌∷◌, ◌++◌, length, take}
use Rattle.std.proofs.Common.{drop, refl, ap, sym, ◌∙◌, subst, arith, length-append}
use Rattle.std.specs.Prelude.{option_map}
use Rattle.std.specs.List.{concat, AllByRecursion}
use Rattle.std.proofs.lemmas.List.{drop_at, append-nil, length-take-le, take-append-le}
use Rattle.std.proofs.lemmas.List.Folds.{concat-append}
use Rattle.std.proofs.Math.Seq.{take-add, take-append-add}
use Rattle.std.proofs.Math.Logic.{∥∥₁_map, ∥∥₁_elim}
use Rattle.std.proofs.Props.{props}
use Rattle.fuse_wire.specs.Faults.{Rose, counted, last_count}
use Rattle.fuse_wire.specs.Numbers.{number}
use Rattle.fuse_wire.specs.Sink.{Appends, Puts, Refuses, IsTornFrom, Tears}
use Rattle.fuse_wire.specs.Frames.{IsFrame, frames, frame_length}
use Rattle.fuse_wire.specs.ByteSink.{ByteSinkState, PutsBytes}
use Rattle.fuse_wire.specs.StreamSink.{IsTorn, Stands, WritesAll, bytes_since, frames_since, tail_since, tail_of, torn_part, stream_sink_told}
use Rattle.fuse_wire.proofs.NumberFront.{number-append}
use Rattle.fuse_wire.proofs.Options.{option_map-back_none, option_map-back_then}
use Rattle.fuse_wire.proofs.Devices.{PutsBytes-then}
use Rattle.fuse_wire.proofs.Frames.{IsTorn-nil, frames-concat_torn}

-- what is told of the bytes that were put
pub told_since : {A : Type 0} (f : List ℕ → A) (first now : Option (List ℕ)) (put : List ℕ) (told : A) →
    now ≡ option_map (λ held. held ++ put) first → f put ≡ told → option_map f (bytes_since first now) ≡ option_map (λ held. told) first
told_since f None now put told e is = refl
told_since f (Some held) now put told e is =
    ap (λ (now : Option (List ℕ)). option_map f (bytes_since (Some held) now)) e
    ∙ ap (λ left. Some (f left)) (drop_at held put (length held) refl)
    ∙ ap Some is

-- what stands after whole frames
pub torn_part-concat : (sent : List (List ℕ)) (torn : List ℕ) → AllByRecursion IsFrame sent → IsTorn torn → torn_part (concat sent ++ torn) ≡ torn
torn_part-concat sent torn each part =
    ap (λ whole. drop (length (concat whole)) (concat sent ++ torn)) (frames-concat_torn sent torn each part)
    ∙ drop_at (concat sent) torn (length (concat sent)) refl

-- the frames told of a stream that stands so
pub frames_since-concat : (first now : Option (List ℕ)) (sent : List (List ℕ)) (torn : List ℕ) → AllByRecursion IsFrame sent →
    IsTorn torn → now ≡ option_map (λ held. held ++ (concat sent ++ torn)) first →
    frames_since first now ≡ option_map (λ held. sent) first
frames_since-concat first now sent torn each part e = told_since frames first now (concat sent ++ torn) sent e (frames-concat_torn sent torn each part)

-- and how it ends
pub tail_since-concat : (broken : Bool) (first now : Option (List ℕ)) (sent : List (List ℕ)) (torn : List ℕ) → AllByRecursion IsFrame sent →
    IsTorn torn → now ≡ option_map (λ held. held ++ (concat sent ++ torn)) first →
    tail_since broken first now ≡ option_map (λ held. tail_of broken torn) first
tail_since-concat broken first now sent torn each part e =
    told_since (λ bytes. tail_of broken (torn_part bytes)) first now (concat sent ++ torn) (tail_of broken torn) e
    (ap (tail_of broken) (torn_part-concat sent torn each part))

-- how a stream stands to which nothing was written, and of which no send was refused
pub Stands-new : (stream : ByteSinkState) → Stands (stream_sink_told stream stream false 0) stream false
Stands-new stream =
    let bytes : stream.bytes ≡ option_map (λ held. held ++ (concat [] ++ [])) stream.bytes = option_map-back_none stream.bytes in
    record {
      sent = [];
      torn = [];
      each = tt;
      told = frames_since-concat stream.bytes stream.bytes [] [] tt IsTorn-nil bytes;
      tail = tail_since-concat false stream.bytes stream.bytes [] [] tt IsTorn-nil bytes;
      bytes = bytes;
      whole = λ _. refl;
      part = IsTorn-nil;
      cause = λ (e : false ≡ true). cc;
      faults = omega arith;
      counts = λ _. omega arith;
    }

-- a piece is written after one that was
pub WritesAll-append : (done : Bool) (first second : List ℕ) (before middle after : ByteSinkState) →
    PutsBytes first before middle → WritesAll done second middle after → WritesAll done (first ++ second) before after
WritesAll-append true first second before middle after p q = PutsBytes-then first second before middle after p q
WritesAll-append false first second before middle after p q =
    let within : q.0 < length second = q.1 in
    let grown : before.faults ≤ middle.faults = p.faults in
    let rose : Rose middle.faults after.faults = q.3 in
    let put : PutsBytes (first ++ take q.0 second) before after = PutsBytes-then first (take q.0 second) before middle after p q.2 in (
      length first + q.0,
      omega (arith, length-append first second, within),
      subst (λ piece. PutsBytes piece before after) (sym (take-append-add first second q.0)) put,
      λ (last : after.faults < last_count). omega (arith, grown, rose last),
    )

-- a write that failed in the first of two pieces
pub WritesAll-front : (first second : List ℕ) (before after : ByteSinkState) → WritesAll false first before after →
    WritesAll false (first ++ second) before after
WritesAll-front first second before after q =
    let within : q.0 < length first = q.1 in (
      q.0,
      omega (arith, length-append first second, within),
      subst (λ piece. PutsBytes piece before after) (sym (take-append-le q.0 first second (omega arith))) q.2,
      q.3,
    )

-- one more element after all that hold
pub AllByRecursion-push : {X : Type 0} (P : X → Type 0) (xs : List X) (x : X) → AllByRecursion P xs → P x → AllByRecursion P (xs ++ x ∷ [])
AllByRecursion-push P [] x each here = (here, tt)
AllByRecursion-push P (y ∷ xs) x each here = (each.0, AllByRecursion-push P xs x each.1 here)

-- what a write that failed left of a frame
pub IsTornFrom-take : (frame : List ℕ) (count : ℕ) → count < length frame → IsTornFrom frame (take count frame)
IsTornFrom-take frame count within =
    let some : length (take count frame) ≡ count = length-take-le count frame (omega arith) in
    (omega (arith, some, within), ap (λ n. take n frame) some)

-- bytes put after whole frames
pub bytes_after : (first before after : Option (List ℕ)) (sent : List (List ℕ)) (torn more : List ℕ) → torn ≡ [] →
    before ≡ option_map (λ held. held ++ (concat sent ++ torn)) first → after ≡ option_map (λ held. held ++ more) before →
    after ≡ option_map (λ held. held ++ (concat sent ++ more)) first
bytes_after first before after sent torn more none e f =
    let whole : before ≡ option_map (λ held. held ++ concat sent) first =
    e ∙ ap (λ rest. option_map (λ held. held ++ rest) first) (ap (λ rest. concat sent ++ rest) none ∙ append-nil (concat sent)) in
    f ∙ ap (option_map (λ held. held ++ more)) whole ∙ option_map-back_then (concat sent) more first

-- how the stream stands after one more frame
pub Stands-more : (frame : List ℕ) (origin before after : ByteSinkState) (refused : ℕ) → IsFrame frame →
    PutsBytes frame before after → Stands (stream_sink_told origin before false refused) before false →
    Stands (stream_sink_told origin after false refused) after false
Stands-more frame origin before after refused is_frame put s =
    let grown : before.faults ≤ after.faults = put.faults in
    let since : origin.faults ≤ before.faults = s.faults in
    let uncounted : counted before.faults refused ≤ before.faults = s.counts refl in
    let each : AllByRecursion IsFrame (s.sent ++ frame ∷ []) = AllByRecursion-push IsFrame s.sent frame s.each is_frame in
    let joined : concat s.sent ++ frame ≡ concat (s.sent ++ frame ∷ []) ++ [] =
    sym (append-nil (concat (s.sent ++ frame ∷ [])) ∙ concat-append s.sent (frame ∷ []) ∙ ap (λ rest. concat s.sent ++ rest) (append-nil frame)) in
    let bytes : after.bytes ≡ option_map (λ held. held ++ (concat (s.sent ++ frame ∷ []) ++ [])) origin.bytes =
    bytes_after origin.bytes before.bytes after.bytes s.sent s.torn frame (s.whole refl) s.bytes put.bytes
    ∙ ap (λ rest. option_map (λ held. held ++ rest) origin.bytes) joined in
    record {
      sent = s.sent ++ frame ∷ [];
      torn = [];
      each = each;
      told = frames_since-concat origin.bytes after.bytes (s.sent ++ frame ∷ []) [] each IsTorn-nil bytes;
      tail = tail_since-concat false origin.bytes after.bytes (s.sent ++ frame ∷ []) [] each IsTorn-nil bytes;
      bytes = bytes;
      whole = λ _. refl;
      part = IsTorn-nil;
      cause = λ (e : false ≡ true). cc;
      faults = omega arith;
      counts = λ _. omega (arith, grown, uncounted);
    }

-- how the stream stands after a write that failed
pub Stands-torn : (frame : List ℕ) (origin before after : ByteSinkState) (refused : ℕ) → IsFrame frame →
    WritesAll false frame before after → Stands (stream_sink_told origin before false refused) before false →
    Stands (stream_sink_told origin after true refused) after true
Stands-torn frame origin before after refused is_frame wrote s =
    let put : PutsBytes (take wrote.0 frame) before after = wrote.2 in
    let rose : Rose before.faults after.faults = wrote.3 in
    let grown : before.faults ≤ after.faults = put.faults in
    let since : origin.faults ≤ before.faults = s.faults in
    let part : IsTorn (take wrote.0 frame) = record { frame = frame; whole = is_frame; part = IsTornFrom-take frame wrote.0 wrote.1 } in
    let bytes : after.bytes ≡ option_map (λ held. held ++ (concat s.sent ++ take wrote.0 frame)) origin.bytes =
    bytes_after origin.bytes before.bytes after.bytes s.sent s.torn (take wrote.0 frame) (s.whole refl) s.bytes put.bytes in
    record {
      sent = s.sent;
      torn = take wrote.0 frame;
      each = s.each;
      told = frames_since-concat origin.bytes after.bytes s.sent (take wrote.0 frame) s.each part bytes;
      tail = tail_since-concat true origin.bytes after.bytes s.sent (take wrote.0 frame) s.each part bytes;
      bytes = bytes;
      whole = λ (e : true ≡ false). cc;
      part = part;
      cause = λ _. λ (last : after.faults < last_count). omega (arith, since, rose last);
      faults = omega arith;
      counts = λ (e : true ≡ false). cc;
    }

-- a send that is refused after a write has failed leaves the stream as it stands
pub Stands-refused : (origin now : ByteSinkState) (refused more : ℕ) (broken : Bool) → broken ≡ true →
    Stands (stream_sink_told origin now broken refused) now broken → Stands (stream_sink_told origin now broken more) now broken
Stands-refused origin now refused more broken failed s = record {
  sent = s.sent;
  torn = s.torn;
  each = s.each;
  told = s.told;
  tail = s.tail;
  bytes = s.bytes;
  whole = s.whole;
  part = s.part;
  cause = s.cause;
  faults = s.faults;
  counts = λ (whole : broken ≡ false). cc;
}

-- more frames told, at the end of those that were
pub told_more : (first : Option (List ℕ)) (before after : Option (List (List ℕ))) (sent more : List (List ℕ)) →
    before ≡ option_map (λ held. sent) first → after ≡ option_map (λ held. sent ++ more) first →
    after ≡ option_map (λ held. held ++ more) before
told_more None before after sent more e f = f ∙ sym (ap (option_map (λ held. held ++ more)) e)
told_more (Some held) before after sent more e f = f ∙ sym (ap (option_map (λ frames. frames ++ more)) e)

-- what a stream tells after one more frame
pub framed_more : (frame : List ℕ) (origin before after : ByteSinkState) (refused : ℕ) → IsFrame frame →
    PutsBytes frame before after → Stands (stream_sink_told origin before false refused) before false →
    frames_since origin.bytes after.bytes ≡ option_map (λ held. held ++ frame ∷ []) (frames_since origin.bytes before.bytes)
unfolding Stands-more
framed_more frame origin before after refused is_frame put s =
    told_more origin.bytes _ _ s.sent (frame ∷ []) s.told (Stands-more frame origin before after refused is_frame put s).told

-- what a stream tells after a write that failed
pub framed_torn : (frame : List ℕ) (origin before after : ByteSinkState) (refused : ℕ) → IsFrame frame →
    WritesAll false frame before after → Stands (stream_sink_told origin before false refused) before false →
    frames_since origin.bytes after.bytes ≡ option_map (λ held. held ++ []) (frames_since origin.bytes before.bytes)
unfolding Stands-torn
framed_torn frame origin before after refused is_frame wrote s =
    (Stands-torn frame origin before after refused is_frame wrote s).told ∙ sym s.told ∙ option_map-back_none (frames_since origin.bytes before.bytes)

-- header and payload are one frame
pub IsFrame-joined : (header payload : List ℕ) → length header ≡ 16 → number header 0 4 ≡ 16 + length payload → IsFrame (header ++ payload)
IsFrame-joined header payload size field =
    let total : length (header ++ payload) ≡ length header + length payload = length-append header payload in
    let same : frame_length (header ++ payload) ≡ number header 0 4 = number-append header payload 0 4 (omega arith) in
    record { header = omega (arith, total, size); length_field = omega (arith, total, size, same, field) }

-- a sink that is whole stays so after one more frame
pub kept_more : (frame : List ℕ) (origin before after : ByteSinkState) (refused : ℕ) (broken : Bool) → broken ≡ false →
    IsFrame frame → PutsBytes frame before after → ∥ Stands (stream_sink_told origin before broken refused) before broken ∥₁ →
    ∥ Stands (stream_sink_told origin after broken refused) after broken ∥₁
kept_more frame origin before after refused true whole is_frame put s = cc
kept_more frame origin before after refused false whole is_frame put s = ∥∥₁_map s (Stands-more frame origin before after refused is_frame put)

-- a sink is broken after a write that failed
pub kept_torn : (frame : List ℕ) (origin before after : ByteSinkState) (refused : ℕ) (broken : Bool) → broken ≡ false →
    IsFrame frame → WritesAll false frame before after → ∥ Stands (stream_sink_told origin before broken refused) before broken ∥₁ →
    ∥ Stands (stream_sink_told origin after true refused) after true ∥₁
kept_torn frame origin before after refused true whole is_frame wrote s = cc
kept_torn frame origin before after refused false whole is_frame wrote s = ∥∥₁_map s (Stands-torn frame origin before after refused is_frame wrote)

-- a send that is refused after a write has failed keeps what was told
pub kept_refused : (origin now : ByteSinkState) (refused more : ℕ) (broken : Bool) → broken ≡ true →
    ∥ Stands (stream_sink_told origin now broken refused) now broken ∥₁ → ∥ Stands (stream_sink_told origin now broken more) now broken ∥₁
kept_refused origin now refused more broken failed s = ∥∥₁_map s (Stands-refused origin now refused more broken failed)

-- a stream that was whole is so after more was put
pub whole_since : (first before after : Option (List ℕ)) (put : List ℕ) → after ≡ option_map (λ held. held ++ put) before →
    tail_since false first after ≡ tail_since false first before
whole_since None before after put e = refl
whole_since (Some first) None after put e = ap (tail_since false (Some first)) e
whole_since (Some first) (Some now) after put e = ap (tail_since false (Some first)) e

-- one more frame is told after it was written
pub Puts-more : (frame : List ℕ) (origin before after : ByteSinkState) (refused : ℕ) (broken : Bool) → broken ≡ false →
    IsFrame frame → PutsBytes frame before after → ∥ Stands (stream_sink_told origin before broken refused) before broken ∥₁ →
    Puts (frame ∷ []) [] (stream_sink_told origin before broken refused) (stream_sink_told origin after broken refused)
Puts-more frame origin before after refused true whole is_frame put s = cc
Puts-more frame origin before after refused false whole is_frame put s =
    let grown : before.faults ≤ after.faults = put.faults in
    let appends : Appends (frame ∷ []) [] (stream_sink_told origin before false refused) (stream_sink_told origin after false refused) = record {
      framed = ∥∥₁_elim s (hlevel props) (framed_more frame origin before after refused is_frame put);
      noted = refl;
      faults = omega arith;
      origin = refl;
    } in
    (appends, whole_since origin.bytes before.bytes after.bytes frame put.bytes)

-- a write that failed leaves a part of its frame after the whole ones
torn_written : (frame : List ℕ) (origin before after : ByteSinkState) (refused : ℕ) → IsFrame frame →
    WritesAll false frame before after → Stands (stream_sink_told origin before false refused) before false → (first now : List ℕ) →
    origin.bytes ≡ Some first → after.bytes ≡ Some now → IsTornFrom frame (torn_part (drop (length first) now))
torn_written frame origin before after refused is_frame wrote s first now was is =
    let torn = take wrote.0 frame in
    let part : IsTorn torn = record { frame = frame; whole = is_frame; part = IsTornFrom-take frame wrote.0 wrote.1 } in
    let bytes : after.bytes ≡ option_map (λ held. held ++ (concat s.sent ++ torn)) origin.bytes =
    bytes_after origin.bytes before.bytes after.bytes s.sent s.torn torn (s.whole refl) s.bytes wrote.2.bytes in
    let some : Some now ≡ Some (first ++ (concat s.sent ++ torn)) =
    sym is ∙ bytes ∙ ap (option_map (λ held. held ++ (concat s.sent ++ torn))) was in
    let same : now ≡ first ++ (concat s.sent ++ torn) = cc in
    let left : torn_part (drop (length first) now) ≡ torn =
    ap (λ bytes. torn_part (drop (length first) bytes)) same
    ∙ ap torn_part (drop_at first (concat s.sent ++ torn) (length first) refl)
    ∙ torn_part-concat s.sent torn s.each part in
    subst (IsTornFrom frame) (sym left) part.part

-- so its frame is the one that is torn, where the stream is told
torn_since : (frame : List ℕ) (first before after : Option (List ℕ)) (put : List ℕ) → after ≡ option_map (λ held. held ++ put) before →
    ((held now : List ℕ) → first ≡ Some held → after ≡ Some now → IsTornFrom frame (torn_part (drop (length held) now))) →
    Tears frame (tail_since false first before) (tail_since true first after)
torn_since frame None before after put e torn = refl
torn_since frame (Some first) None after put e torn = ap (tail_since true (Some first)) e
torn_since frame (Some first) (Some was) None put e torn = cc
torn_since frame (Some first) (Some was) (Some now) put e torn = torn first now refl refl

-- nothing is told of a frame whose write failed but that it is torn, and a fault is counted
pub Refuses-torn : (frame : List ℕ) (origin before after : ByteSinkState) (refused : ℕ) (broken : Bool) → broken ≡ false →
    IsFrame frame → WritesAll false frame before after → ∥ Stands (stream_sink_told origin before broken refused) before broken ∥₁ →
    Refuses (stream_sink_told origin before broken refused) (stream_sink_told origin after true refused)
    × Tears frame (tail_since broken origin.bytes before.bytes) (tail_since true origin.bytes after.bytes)
Refuses-torn frame origin before after refused true whole is_frame wrote s = cc
Refuses-torn frame origin before after refused false whole is_frame wrote s =
    let put : PutsBytes (take wrote.0 frame) before after = wrote.2 in
    let grown : before.faults ≤ after.faults = put.faults in
    let rose : after.faults < last_count → before.faults < after.faults = wrote.3 in
    let told : Appends [] [] (stream_sink_told origin before false refused) (stream_sink_told origin after true refused) = record {
      framed = ∥∥₁_elim s (hlevel props) (framed_torn frame origin before after refused is_frame wrote);
      noted = refl;
      faults = omega arith;
      origin = refl;
    } in (
      (told, λ (last : counted after.faults refused < last_count). omega (arith, grown, rose)),
      torn_since frame origin.bytes before.bytes after.bytes (take wrote.0 frame) put.bytes (λ first now was is.
          ∥∥₁_elim s (hlevel props) (λ s. torn_written frame origin before after refused is_frame wrote s first now was is)),
    )

-- the front that is written grows by what one more write took of the rest
pub PutsBytes-take : (piece rest : List ℕ) (count more : ℕ) (before middle after : ByteSinkState) → rest ≡ drop count piece →
    PutsBytes (take count piece) before middle → PutsBytes (take more rest) middle after →
    PutsBytes (take (count + more) piece) before after
PutsBytes-take piece rest count more before middle after left p q =
    let parts : take count piece ++ take more rest ≡ take (count + more) piece =
    ap (λ behind. take count piece ++ take more behind) left ∙ sym (take-add count more piece) in
    subst (λ put. PutsBytes put before after) parts (PutsBytes-then (take count piece) (take more rest) before middle after p q)
