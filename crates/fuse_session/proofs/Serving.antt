-- The run of a session: how its messages are accounted for, and what it hands back.
use Rattle.std.proofs.Common.{◌≡◌, ◌∙◌, ℕ, Bool, false, List, [], Option, sym, ap, subst}
use Rattle.fuse_wire.specs.Source.{SourceState}
use Rattle.fuse_wire.specs.Sink.{SinkState}
use Rattle.fuse_wire.specs.declared.newtypes.RequestId.{RequestId}
use Rattle.fuse_reply.specs.Late.{LateSeen}
use Rattle.fuse_reply.specs.declared.out.Out.{Out}
use Rattle.fuse_reply.specs.declared.out.Out.TheVariants.{Deferred}
use Rattle.fuse_core.specs.OnePerMessage.{Accounting, InOrder, Owing, UpToOrder}
use Rattle.fuse_loop.specs.EventLoop.{Run}
use Rattle.fuse_loop.specs.Incoming.{IsBroken}
use Rattle.fuse_loop.specs.Progress.{Progress, progress}
use Rattle.fuse_loop.specs.declared.end.End.{End}
use Rattle.fuse_loop.specs.declared.transcript.Transcript.{Transcript}
use Rattle.fuse_loop.proofs.Order.{OnePerMessage-from_order}
use Rattle.fuse_workers.specs.OnePerMessageLater.{NoneHeldBack}
use Rattle.fuse_workers.proofs.Accounts.{OnePerMessageLater-prompt, UpToOrder-from_later}
use Rattle.fuse_dispatch.specs.Promise.{Promise}
use Rattle.fuse_session.specs.Accounted.{Accounted, ManyThreads, NeverLater}
use Rattle.fuse_session.specs.Ran.{LaterServed, Opened, Ran}
use Rattle.fuse_session.specs.SessionEnd.{Outcome}

-- a run that is accounted for in another way
Run-accounted : {one other : Accounting} {end : End} {p q : Progress} (run : Run one end p q) → other run.answered run.sent run.notes run.lost
    → Run other end p q
Run-accounted run order = record {
  turns = run.turns;
  answered = run.answered;
  refused = run.refused;
  sent = run.sent;
  notes = run.notes;
  lost = run.lost;
  heard = run.heard;
  order = order;
  moved = run.moved;
  begins = run.begins;
  taken = run.taken;
  ended = run.ended;
}

-- a run on one thread
pub Accounted-one : (owed : Owing) → ((seq : ℕ) (m : List ℕ) (out : Out) → owed seq m out → IsBroken m → ⊥) → (threads : Option ℕ) (defers : Bool)
    (end : End) (p q : Progress) → Run (InOrder owed 0) end p q → Run (Accounted threads defers owed) end p q
Accounted-one owed not_broken threads defers end p q run =
    let each : UpToOrder owed IsBroken run.answered run.sent run.notes run.lost =
    OnePerMessage-from_order owed IsBroken not_broken 0 run.answered run.sent run.notes run.lost run.order in
    Run-accounted run (record {
      one_per_message = λ _. each;
      in_order = λ _. run.order;
      later = OnePerMessageLater-prompt each;
    })

-- a run on several threads
pub Accounted-many : (owed : Owing) (threads : Option ℕ) (defers : Bool)
    → (defers ≡ false → (seq : ℕ) (m : List ℕ) (number : ℕ) (id : RequestId) → owed seq m (Deferred number id) → ⊥) → ManyThreads threads
    → {came : List LateSeen} {recorded : Type 0} (end : End) (p q : Progress) → Run (NoneHeldBack owed IsBroken came recorded) end p q
    → Run (Accounted threads defers owed) end p q
Accounted-many owed threads defers never many end p q run = Run-accounted run (record {
  one_per_message = λ none_later. UpToOrder-from_later owed IsBroken (never (none_later many)) run.order.one_per_message;
  in_order = λ single. absurd (single many);
  later = run.order.one_per_message;
})

-- a session that ended so, and all that is left of it
pub Ran-ends : {F S K : Type 0} (promise : Promise F) (session seen : Opened F S K) (fs' : F) (outcome found : Outcome) (shaken counts found_counts : Transcript)
    (source : SourceState) (sink : SinkState) (source' source'' : SourceState) (sink' sink'' : SinkState)
    → session ≡ seen → seen.progress ≡ progress source sink shaken []
    → ((unasked : List (List ℕ)) × LaterServed promise seen.filesystem seen.terms seen.threads found (progress source sink shaken [])
    (progress source'' sink'' found_counts unasked))
    → (counts ≡ found_counts) × (outcome ≡ found) → (source' ≡ source'') × (sink' ≡ sink'') → promise.may_destroy seen.filesystem fs'
    → (NeverLater seen.threads promise.defers → found_counts.unrecorded ≡ 0) → Ran promise session fs' outcome source' sink' counts
Ran-ends promise session seen fs' outcome found shaken counts found_counts source sink source' source'' sink' sink'' is start ends told back destroyed
    recorded =
    subst (λ (s : _). Ran promise s fs' outcome source' sink' counts) (sym is) (record {
      unasked = ends.0;
      ends = subst (λ (p : Progress). LaterServed promise seen.filesystem seen.terms seen.threads outcome p (progress source' sink' counts ends.0))
          (sym start)
          (subst (λ (q : Progress). LaterServed promise seen.filesystem seen.terms seen.threads outcome (progress source sink shaken []) q) after
          (subst (λ (o : Outcome). LaterServed promise seen.filesystem seen.terms seen.threads o (progress source sink shaken [])
          (progress source'' sink'' found_counts ends.0)) (sym told.1) ends.1));
      recorded = λ never. ap (λ (t : Transcript). t.unrecorded) told.0 ∙ recorded never;
      destroyed = destroyed;
    })
  where
    after : progress source'' sink'' found_counts ends.0 ≡ progress source' sink' counts ends.0
    after =
        let a = sym back.0 in
        let b = sym back.1 in
        let t = sym told.0 in cc
