-- Messages of a handshake, one after another.
use Rattle.std.proofs.Common.{◌≡◌, ◌≢◌, ◌++◌, ℕ, List, [], ◌∷◌, sym, ◌∙◌, ap, subst, refl, length, map}
use Rattle.std.proofs.Common.{take, append_assoc, Result, Ok, Err, inl, inr, pos}
use Rattle.std.proofs.lemmas.List.{map-append}
use Rattle.fuse_wire.specs.Source.{SourceState, Takes, message, NothingLeft, SourceFailed}
use Rattle.fuse_wire.specs.declared.flags.init_flags.InitFlags.{InitFlags}
use Rattle.fuse_wire.specs.declared.newtypes.RequestId.{RequestId}
use Rattle.fuse_wire.proofs.Devices.{Takes-none, Takes-then}
use Rattle.fuse_config.specs.Configuration.{version_payload}
use Rattle.fuse_header.specs.declared.request.Request.{Request}
use Rattle.fuse_reply.specs.declared.out.Out.{Out}
use Rattle.fuse_reply.specs.declared.out.Out.TheVariants.{Frame}
use Rattle.fuse_reply.specs.Answer.Answer.{Error}
use Rattle.fuse_reply.specs.Frame.{reply, frame}
use Rattle.fuse_dispatch.specs.Promise.{MayInit}
use Rattle.fuse_session.specs.Handshake.{greeting, Greets, Negotiates, HandshakeEnd, Handshake}
use Rattle.fuse_session.specs.Handshake.HandshakeEnd.{Open, Failed}
use Rattle.fuse_session.specs.HandshakeStep.{HandshakeRun, HandshakeOn, HandshakeEnds, end_after_init}
use Rattle.fuse_loop.specs.Progress.{Progress, ChannelState, TakesNext, Moves, DeliversOnce, SinkUntouched, LeavesOut}
use Rattle.fuse_loop.specs.declared.taken.Taken.TheVariants.{Message, Gone as NoneLeft, Failed as NoneCame}
use Rattle.fuse_session.specs.declared.greeting.Greeting.{Greeting}
use Rattle.fuse_session.specs.declared.greeting.Greeting.TheVariants.{Silent, Newer, Offered}
use Rattle.fuse_session.specs.declared.greeting.Offer.{Offer}
use Rattle.fuse_session.specs.declared.greeting.HandshakeError.{HandshakeError}
use Rattle.fuse_session.specs.declared.greeting.HandshakeError.TheVariants.{InvalidData}
use Rattle.fuse_session.specs.declared.invalid_data.InvalidData.{InvalidData as Invalid}
use Rattle.fuse_session.specs.declared.steps.HandshakeOutcome.{HandshakeOutcome}
use Rattle.fuse_session.specs.declared.steps.HandshakeOutcome.TheVariants as outcome
use Rattle.fuse_loop.proofs.Taking.{Begins-none, Begins-from_takes, Begins-after, SourceFailed-after}
use Rattle.fuse_loop.proofs.Moving.{LeavesOut-append, Moves-none, Moves-received, Moves-then, moves-then, Handed-frame, took, lost}

-- one stretch of a handshake, and then another
moves-then_frames : {fs gs : List (List ℕ)} {p q r : Progress} (xs ys js ls : List (List ℕ))
    → Moves (length xs) fs [] (map Frame js) p q → Moves (length ys) gs [] (map Frame ls) q r
    → Moves (length (xs ++ ys)) (fs ++ gs) [] (map Frame (js ++ ls)) p r
moves-then_frames {fs} {gs} {p} {q} {r} xs ys js ls first second =
    subst (λ (lost : List Out). Moves (length (xs ++ ys)) (fs ++ gs) [] lost p r) (sym (map-append Frame js ls)) (moves-then xs ys first second)

-- no message came
none : {F : Type 0} {may_init : MayInit F} {page : ℕ} {fs : F} {found : HandshakeOutcome} {p q : Progress}
    → SinkUntouched p q → (found ≢ outcome.Failed → Takes [] p.source q.source)
    → HandshakeEnds found Open (NothingLeft q.source) (SourceFailed p.source q.source) → HandshakeRun may_init page found fs fs p q
none {F} {may_init} {page} {fs} {found} {p} {q} same takes ends = record {
  turns = [];
  replies = [];
  sent = [];
  lost = [];
  end = Open;
  handshake = (refl, refl, refl);
  left_out = (refl, refl);
  moved = Moves-none same;
  begins = Begins-none p.source;
  taken = takes;
  ended = ends;
}

pub HandshakeRun-gone : {F : Type 0} {may_init : MayInit F} {page : ℕ} {fs : F} (a b : ChannelState)
    → TakesNext NoneLeft a b → HandshakeRun may_init page outcome.Gone fs fs a.progress b.progress
HandshakeRun-gone a b next = none next.2 (λ _. next.0) (refl, next.1)

pub HandshakeRun-failed : {F : Type 0} {may_init : MayInit F} {page : ℕ} {fs : F} (a b : ChannelState)
    → TakesNext NoneCame a b → HandshakeRun may_init page outcome.Failed fs fs a.progress b.progress
HandshakeRun-failed a b next = none next.1 (λ other. absurd (other refl)) (refl, next.0)

-- one message alone, by what it comes to
one-message : {F : Type 0} (may_init : MayInit F) (page : ℕ) (fs fs1 : F) (m : List ℕ) (g : Greeting) (frames : List (List ℕ)) (end : HandshakeEnd)
    → g ≡ greeting m → Greets may_init page fs g [] frames fs1 end (λ rest. Handshake may_init page fs [] rest fs1 end)
    → Handshake may_init page fs (m ∷ []) frames fs1 end
one-message may_init page fs fs1 m g frames end is greets =
    subst (λ (g : Greeting). Greets may_init page fs g [] frames fs1 end (λ rest. Handshake may_init page fs [] rest fs1 end)) is greets

-- a message ended the handshake without a frame
pub HandshakeRun-silent : {F : Type 0} (may_init : MayInit F) (page : ℕ) (fs : F) (d : Invalid) (n : ℕ) (a b : ChannelState)
    → TakesNext (Message n) a b → Silent d ≡ greeting (take n b.buffer)
    → HandshakeRun may_init page (outcome.Refused (InvalidData d)) fs fs a.progress b.progress
HandshakeRun-silent may_init page fs d n a b next is = record {
  turns = next.0.turn ∷ [];
  replies = [];
  sent = [];
  lost = [];
  end = Failed (InvalidData d);
  handshake = one-message may_init page fs fs (message next.0.turn) (Silent d) [] (Failed (InvalidData d))
      (is ∙ ap greeting next.0.bytes) (refl, refl, refl, refl);
  left_out = (refl, refl);
  moved = Moves-received a.progress b.progress next.1 next.2 next.3;
  begins = Begins-from_takes (next.0.turn ∷ []) a.progress.source b.progress.source next.0.taken;
  taken = λ _. next.0.taken;
  ended = refl;
}

-- a message was taken and its frame handed to the sink, which may have lost it
record Replied (f turn : List ℕ) (p q : Progress) : Type 0 where
  sent : List (List ℕ)
  lost : List (List ℕ)
  left_out : LeavesOut lost (f ∷ []) sent
  moved : Moves 1 sent [] (map Frame lost) p q
  taken : Takes (turn ∷ []) p.source q.source

replied : {f : List ℕ} (n : ℕ) (a b c : ChannelState) (next : TakesNext (Message n) a b) → DeliversOnce (Frame f) b c
    → Replied f next.0.turn a.progress c.progress
replied {f} n a b c next hands =
    elim (Handed-frame hands) as (λ _. Replied f next.0.turn a.progress c.progress) [
      | took moved ↦ record {
        sent = f ∷ [];
        lost = [];
        left_out = inl ([], refl, (refl, refl));
        moved = Moves-then (Moves-received a.progress b.progress next.1 next.2 next.3) moved;
        taken = taken;
      }
      | lost moved ↦ record {
        sent = [];
        lost = f ∷ [];
        left_out = inr ([], refl, (refl, refl));
        moved = Moves-then (Moves-received a.progress b.progress next.1 next.2 next.3) moved;
        taken = taken;
      }
    ]
  where
    taken : Takes (next.0.turn ∷ []) a.progress.source c.progress.source
    taken = subst (λ (s : SourceState). Takes (next.0.turn ∷ []) a.progress.source s) (sym hands.source) next.0.taken

-- a message ended the handshake with a frame
closes : {F : Type 0} {may_init : MayInit F} {page : ℕ} {fs fs1 : F} {found : HandshakeOutcome} (end : HandshakeEnd) (f : List ℕ) (n : ℕ) (a b c : ChannelState)
    (next : TakesNext (Message n) a b) → DeliversOnce (Frame f) b c
    → Handshake may_init page fs (message next.0.turn ∷ []) (f ∷ []) fs1 end
    → HandshakeEnds found end (NothingLeft c.progress.source) (SourceFailed a.progress.source c.progress.source)
    → HandshakeRun may_init page found fs fs1 a.progress c.progress
closes end f n a b c next hands handshake ends =
    let r : Replied f next.0.turn a.progress c.progress = replied n a b c next hands in
    record {
      turns = next.0.turn ∷ [];
      replies = f ∷ [];
      sent = r.sent;
      lost = r.lost;
      end = end;
      handshake = handshake;
      left_out = r.left_out;
      moved = r.moved;
      begins = Begins-from_takes (next.0.turn ∷ []) a.progress.source c.progress.source r.taken;
      taken = λ _. r.taken;
      ended = ends;
    }

-- a message ended the handshake with the reply of an error
pub HandshakeRun-refused : {F : Type 0} (may_init : MayInit F) (page : ℕ) (fs : F) (g : Greeting) (id : RequestId) (errno : ℕ) (e : HandshakeError)
    (n : ℕ) (a b c : ChannelState)
    → TakesNext (Message n) a b → g ≡ greeting (take n b.buffer) → DeliversOnce (Frame (reply id.0 (Error errno))) b c
    → Greets may_init page fs g [] (reply id.0 (Error errno) ∷ []) fs (Failed e) (λ rest. Handshake may_init page fs [] rest fs (Failed e))
    → HandshakeRun may_init page (outcome.Refused e) fs fs a.progress c.progress
HandshakeRun-refused may_init page fs g id errno e n a b c next is hands greets =
    closes (Failed e) (reply id.0 (Error errno)) n a b c next hands
    (one-message may_init page fs fs (message next.0.turn) g (reply id.0 (Error errno) ∷ []) (Failed e)
    (is ∙ ap greeting next.0.bytes) greets)
    refl

-- how what `init` answered ends the handshake
abbrev pub accepted_outcome : Result InitFlags HandshakeError → HandshakeOutcome
accepted_outcome (Ok granted) = outcome.Accepted granted
accepted_outcome (Err e) = outcome.Refused e

-- what `init` answered ended the handshake
pub HandshakeRun-offered : {F : Type 0} (may_init : MayInit F) (page : ℕ) (fs fs1 : F) (request : Request) (offer : Offer) (f : List ℕ)
    (accepted : Result InitFlags HandshakeError) (n : ℕ) (a b c : ChannelState)
    → TakesNext (Message n) a b → Offered request offer ≡ greeting (take n b.buffer)
    → Negotiates may_init page fs request offer (f ∷ []) fs1 (end_after_init accepted) → DeliversOnce (Frame f) b c
    → HandshakeRun may_init page (accepted_outcome accepted) fs fs1 a.progress c.progress
HandshakeRun-offered {F} may_init page fs fs1 request offer f accepted n a b c next is negotiates hands =
    closes (end_after_init accepted) f n a b c next hands
    (one-message may_init page fs fs1 (message next.0.turn) (Offered request offer) (f ∷ []) (end_after_init accepted)
    (is ∙ ap greeting next.0.bytes) (refl, negotiates))
    (ends accepted)
  where
    ends : (accepted : Result InitFlags HandshakeError)
        → HandshakeEnds (accepted_outcome accepted) (end_after_init accepted) (NothingLeft c.progress.source) (SourceFailed a.progress.source c.progress.source)
    ends (Ok granted) = refl
    ends (Err e) = refl

-- the next message is awaited
pub HandshakeOn-newer : {F : Type 0} (may_init : MayInit F) (page : ℕ) (fs : F) (id : RequestId) (n : ℕ) (a b c : ChannelState)
    → TakesNext (Message n) a b → Newer id ≡ greeting (take n b.buffer) → DeliversOnce (Frame (frame id.0 (pos 0) version_payload)) b c
    → HandshakeOn may_init page fs fs a.progress c.progress
HandshakeOn-newer may_init page fs id n a b c next is hands =
    let f : List ℕ = frame id.0 (pos 0) version_payload in
    let r : Replied f next.0.turn a.progress c.progress = replied n a b c next hands in
    record {
      turns = next.0.turn ∷ [];
      replies = f ∷ [];
      sent = r.sent;
      lost = r.lost;
      same = refl;
      go = λ ms later fs2 end rest.
          subst (λ (g : Greeting). Greets may_init page fs g ms (f ∷ later) fs2 end (λ frames. Handshake may_init page fs ms frames fs2 end))
          (is ∙ ap greeting next.0.bytes) (later, refl, rest);
      left_out = r.left_out;
      moved = r.moved;
      taken = r.taken;
    }

-- nothing was taken yet
pub HandshakeOn-none : {F : Type 0} {may_init : MayInit F} {page : ℕ} (fs : F) (p : Progress) → HandshakeOn may_init page fs fs p p
HandshakeOn-none fs p = record {
  turns = [];
  replies = [];
  sent = [];
  lost = [];
  same = refl;
  go = λ ms later fs2 end rest. rest;
  left_out = (refl, refl);
  moved = Moves-none (record { sink = refl; counts = refl; unasked = refl });
  taken = Takes-none p.source;
}

-- a handshake so far goes on
pub HandshakeOn-then : {F : Type 0} {may_init : MayInit F} {page : ℕ} {fs fs1 fs2 : F} {p q r : Progress}
    → HandshakeOn may_init page fs fs1 p q → HandshakeOn may_init page fs1 fs2 q r → HandshakeOn may_init page fs fs2 p r
HandshakeOn-then {F} {may_init} {page} {fs} {fs1} {fs2} {p} {q} {r} first second = record {
  turns = first.turns ++ second.turns;
  replies = first.replies ++ second.replies;
  sent = first.sent ++ second.sent;
  lost = first.lost ++ second.lost;
  same = second.same ∙ first.same;
  go = λ ms later fs3 end rest.
      let inner : Handshake may_init page fs1 (map message second.turns ++ ms) (second.replies ++ later) fs3 end =
      second.go ms later fs3 end (subst (λ (x : F). Handshake may_init page x ms later fs3 end) (sym first.same) rest) in
      let outer : Handshake may_init page fs (map message first.turns ++ (map message second.turns ++ ms)) (first.replies ++ (second.replies ++ later))
      fs3 end =
      first.go (map message second.turns ++ ms) (second.replies ++ later) fs3 end
      (subst (λ (x : F). Handshake may_init page x (map message second.turns ++ ms) (second.replies ++ later) fs3 end) first.same inner) in
      subst (λ (x : List (List ℕ)). Handshake may_init page fs x ((first.replies ++ second.replies) ++ later) fs3 end)
      (sym (append_assoc (map message first.turns) (map message second.turns) ms)
      ∙ ap (λ (x : List (List ℕ)). x ++ ms) (sym (map-append message first.turns second.turns)))
      (subst (λ (x : List (List ℕ)). Handshake may_init page fs (map message first.turns ++ (map message second.turns ++ ms)) x fs3 end)
      (sym (append_assoc first.replies second.replies later)) outer);
  left_out = LeavesOut-append first.lost second.lost first.replies second.replies first.sent second.sent first.left_out second.left_out;
  moved = moves-then_frames first.turns second.turns first.lost second.lost first.moved second.moved;
  taken = Takes-then first.turns second.turns p.source q.source r.source first.taken second.taken;
}

-- how a handshake ends whose first messages were answered
HandshakeEnds-after : (found : HandshakeOutcome) (end : HandshakeEnd) (none_left failed failed' : Type 0) → (failed → failed')
    → HandshakeEnds found end none_left failed → HandshakeEnds found end none_left failed'
HandshakeEnds-after (outcome.Accepted granted) end none_left failed failed' longer e = e
HandshakeEnds-after outcome.Gone end none_left failed failed' longer e = e
HandshakeEnds-after (outcome.Refused d) end none_left failed failed' longer e = e
HandshakeEnds-after outcome.Failed end none_left failed failed' longer e = (e.0, longer e.1)

-- a handshake so far, and its end
pub HandshakeRun-then : {F : Type 0} {may_init : MayInit F} {page : ℕ} {fs fs1 fs2 : F} {found : HandshakeOutcome} {p q r : Progress}
    → HandshakeOn may_init page fs fs1 p q → HandshakeRun may_init page found fs1 fs2 q r → HandshakeRun may_init page found fs fs2 p r
HandshakeRun-then {F} {may_init} {page} {fs} {fs1} {fs2} {found} {p} {q} {r} first second = record {
  turns = first.turns ++ second.turns;
  replies = first.replies ++ second.replies;
  sent = first.sent ++ second.sent;
  lost = first.lost ++ second.lost;
  end = second.end;
  handshake = subst (λ (m : List (List ℕ)). Handshake may_init page fs m (first.replies ++ second.replies) fs2 second.end)
      (sym (map-append message first.turns second.turns))
      (first.go (map message second.turns) second.replies fs2 second.end
      (subst (λ (x : F). Handshake may_init page x (map message second.turns) second.replies fs2 second.end) first.same second.handshake));
  left_out = LeavesOut-append first.lost second.lost first.replies second.replies first.sent second.sent first.left_out second.left_out;
  moved = moves-then_frames first.turns second.turns first.lost second.lost first.moved second.moved;
  begins = Begins-after first.turns second.turns p.source q.source first.taken second.begins;
  taken = λ other. Takes-then first.turns second.turns p.source q.source r.source first.taken (second.taken other);
  ended = HandshakeEnds-after found second.end (NothingLeft r.source) (SourceFailed q.source r.source) (SourceFailed p.source r.source)
      (SourceFailed-after p.source q.source r.source first.taken.faults) second.ended;
}
