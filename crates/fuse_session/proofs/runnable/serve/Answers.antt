-- What came of the later messages.
use Rattle.std.proofs.Common.{◌≡◌, ◌≢◌, [], Some, inr, rules, subst, sym}
use Rattle.fuse_session.specs.Accounted.{Accounted}
use Rattle.fuse_dispatch.specs.OwedMessage.{OwedByPromise}
use Rattle.fuse_loop.specs.EventLoop.{Run}
use Rattle.fuse_loop.specs.Lines.{unasked_of}
use Rattle.fuse_core.specs.OnePerMessage.{Accounting}
use Rattle.fuse_loop.specs.Progress.{Progress, added, progress}
use Rattle.fuse_loop.proofs.Adding.{Run-added}
use Rattle.fuse_session.proofs.runnable.serve.Goals as goal

pub returns-clause-ends : goal.returns-clause-ends
returns-clause-ends g c =
    let run = c.answer_all-run.result.0 in
    let left = c.conclude.result in
    let last = unasked_of run.buffers in
    let accounted : Accounting = Accounted c.args.n_threads g.FS.Filesystem.promise.defers (OwedByPromise g.FS.Filesystem.promise
    c.args.shared.now.service.handler.filesystem
    c.args.shared.now.service.terms) in
    let some : c.args.n_threads ≢ Some 0 = search rules in
    let run_added = Run-added {accounted = accounted} (g.S.Source.told c.args.source) (g.S.Source.told run.source) (g.K.Sink.told c.args.sink)
    (g.K.Sink.told run.sink) c.args.shaken run.transcript [] last c.answer_all-run.ensures.run in
    let after : progress (g.S.Source.told run.source) (g.K.Sink.told run.sink) (added c.args.shaken run.transcript) last
    ≡ progress (g.S.Source.told left.source) (g.K.Sink.told left.sink) left.transcript last =
    let a = sym c.conclude.ensures.devices.0 in
    let b = sym c.conclude.ensures.devices.1 in
    let t = sym c.conclude.ensures.transcript in cc in (
      last,
      inr (
        some,
        (
          run.end,
          c.conclude.ensures.outcome,
          subst (λ (q : Progress). Run accounted run.end (progress (g.S.Source.told c.args.source) (g.K.Sink.told c.args.sink) c.args.shaken []) q)
              after run_added,
        ),
      ),
    )
