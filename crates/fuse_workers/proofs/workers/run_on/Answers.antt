use Rattle.std.proofs.Common.{◌≡◌, ◌∙◌, [], List, ap, subst, sym}
use Rattle.fuse_reply.specs.Late.{LateSeen}
use Rattle.fuse_loop.specs.EventLoop.{Run}
use Rattle.fuse_workers.specs.Hearing.{end_of}
use Rattle.fuse_loop.specs.Incoming.{IsBroken}
use Rattle.fuse_loop.specs.Lines.{LinesState, late_of, lates_in, notices_in, unasked_of}
use Rattle.fuse_core.specs.OnePerMessage.{Owing, UpToOrder}
use Rattle.fuse_workers.specs.OnePerMessageLater.{NoneHeldBack}
use Rattle.fuse_loop.specs.Progress.{Progress, nothing_yet, progress}
use Rattle.fuse_workers.specs.Relays.{relay_of}
use Rattle.fuse_loop.specs.declared.end.End.{End}
use Rattle.fuse_workers.proofs.Assembling.{Run-later, Run-prompt, kept-by}
use Rattle.fuse_workers.proofs.workers.run_on.Goals as goal

pub returns-clause-run : goal.returns-clause-run
returns-clause-run g c never =
    let owed : Owing = g.W.Work.owed c.args.work.now in
    let first = c.args.parts in
    let stopped = c.run_with-stopped.result.0 in
    let ends = c.run_with-stopped.result.1 in
    let told = c.ended-run.result in
    let taken = ends.caller.frames.hand.taken in
    let conducts = c.run_with-stopped.ensures.conducts in
    let run = Run-prompt owed g.W.Work.DEFERS stopped first.intake ends.intake (relay_of first.relay.outlet first.relay.book)
    (relay_of ends.relay.outlet ends.relay.book) ends.caller.jobs.hand ends.caller.frames.hand
    conducts c.requires.nothing.0 c.requires.nothing.1 c.requires.book c.requires.own told.transcript.unrecorded never in
    let last : progress ends.intake.source ends.relay.outlet.sink (record ends.relay.outlet.counts {
      received = ends.intake.received;
      unrecorded = told.transcript.unrecorded;
    }) (notices_in taken)
    ≡ progress (g.S.Source.told told.source) (g.K.Sink.told told.sink) told.transcript (unasked_of told.buffers) =
    let a = sym c.ended-run.ensures.ends.0 in
    let b = sym c.ended-run.ensures.ends.1 in
    let t = sym c.ended-run.ensures.transcript in
    let u : notices_in taken ≡ unasked_of told.buffers = ap (λ (l : LinesState). unasked_of l) (sym c.ended-run.ensures.buffers) in cc in
    let before = progress first.intake.source first.relay.outlet.sink nothing_yet [] in
    subst (λ (e : End). Run (UpToOrder owed IsBroken) e before (progress (g.S.Source.told told.source) (g.K.Sink.told told.sink) told.transcript
    (unasked_of told.buffers))) (sym (c.ended-run.ensures.end ∙ c.end.ensures))
    (subst (λ (q : Progress). Run (UpToOrder owed IsBroken) (end_of stopped) before q) last run)

pub returns-clause-later : goal.returns-clause-later
returns-clause-later g c =
    let owed : Owing = g.W.Work.owed c.args.work.now in
    let first = c.args.parts in
    let stopped = c.run_with-stopped.result.0 in
    let ends = c.run_with-stopped.result.1 in
    let told = c.ended-run.result in
    let taken = ends.caller.frames.hand.taken in
    let conducts = c.run_with-stopped.ensures.conducts in
    let recorded : Type 0 = told.transcript.unrecorded ≡ 0 in
    let run = Run-later owed g.W.Work.DEFERS stopped first.intake ends.intake (relay_of first.relay.outlet first.relay.book)
    (relay_of ends.relay.outlet ends.relay.book) ends.caller.jobs.hand ends.caller.frames.hand
    conducts c.requires.nothing.0 c.requires.nothing.1 c.requires.book c.requires.own told.transcript.unrecorded recorded
    (kept-by g.W.Work.DEFERS told.transcript.unrecorded ends.relay.book.unrecorded c.ended-run.ensures.later) in
    let last : progress ends.intake.source ends.relay.outlet.sink (record ends.relay.outlet.counts {
      received = ends.intake.received;
      unrecorded = told.transcript.unrecorded;
    }) (notices_in taken)
    ≡ progress (g.S.Source.told told.source) (g.K.Sink.told told.sink) told.transcript (unasked_of told.buffers) =
    let a = sym c.ended-run.ensures.ends.0 in
    let b = sym c.ended-run.ensures.ends.1 in
    let t = sym c.ended-run.ensures.transcript in
    let u : notices_in taken ≡ unasked_of told.buffers = ap (λ (l : LinesState). unasked_of l) (sym c.ended-run.ensures.buffers) in cc in
    let before = progress first.intake.source first.relay.outlet.sink nothing_yet [] in
    let late : lates_in taken ≡ late_of told.buffers = ap (λ (l : LinesState). late_of l) (sym c.ended-run.ensures.buffers) in
    subst (λ (e : End). Run (NoneHeldBack owed IsBroken (late_of told.buffers) recorded) e before (progress (g.S.Source.told told.source)
    (g.K.Sink.told told.sink) told.transcript (unasked_of told.buffers))) (sym (c.ended-run.ensures.end ∙ c.end.ensures))
    (subst (λ (q : Progress). Run (NoneHeldBack owed IsBroken (late_of told.buffers) recorded) (end_of stopped) before q) last
    (subst (λ (came : List LateSeen). Run (NoneHeldBack owed IsBroken came recorded) (end_of stopped) before
    (progress ends.intake.source ends.relay.outlet.sink (record ends.relay.outlet.counts {
      received = ends.intake.received;
      unrecorded = told.transcript.unrecorded;
    }) (notices_in taken))) late run))
