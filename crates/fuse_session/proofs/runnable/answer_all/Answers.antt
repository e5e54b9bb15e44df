-- What came of the later messages, by how many threads answered them.
use Rattle.fuse_dispatch.specs.OwedMessage.{OwedByPromise}
use Rattle.fuse_session.proofs.Serving.{Accounted-many, Accounted-one}
use Rattle.fuse_dispatch.proofs.Serving.{OwedByPromise-at_once, OwedByPromise-broken}
use Rattle.fuse_session.proofs.runnable.answer_all.Goals as goal

pub returns-in-None-clause-run : goal.returns-in-None-clause-run
returns-in-None-clause-run g c =
    let fs = c.args.shared.now.service.handler.filesystem in
    let terms = c.args.shared.now.service.terms in
    let promise = g.FS.Filesystem.promise in
    Accounted-one (OwedByPromise promise fs terms) (OwedByPromise-broken promise fs terms) c.args.n_threads promise.defers _ _ _
    c.run_inline.ensures.run

pub returns-in-Some-clause-run : goal.returns-in-Some-clause-run
returns-in-Some-clause-run g c =
    let fs = c.args.shared.now.service.handler.filesystem in
    let terms = c.args.shared.now.service.terms in
    let promise = g.FS.Filesystem.promise in
    Accounted-many (OwedByPromise promise fs terms) c.args.n_threads promise.defers (OwedByPromise-at_once promise fs terms)
    c.in-Some.ensures.1 _ _ _ c.run_workers_by.ensures.later
