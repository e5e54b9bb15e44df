-- What a request came to by a door is owed, since the handler owes each call a reply that comes later.
use Rattle.std.proofs.Common.{◌≡◌, true, rules}
use Rattle.fuse_header.specs.Header.{header_fields, request_of}
use Rattle.fuse_loop.specs.Incoming.{id_of}
use Rattle.fuse_dispatch.specs.Verdict.{verdict}
use Rattle.fuse_dispatch.proofs.Deferring.{owed-comes}
use Rattle.fuse_dispatch.proofs.dispatch.SharedWork.answer.Goals as goal

pub returns-then-DEFERS-clause-owed : goal.returns-then-DEFERS-clause-owed
returns-then-DEFERS-clause-owed g c =
    let service = c.args.self.now.service in
    let request = request_of (header_fields c.args.message.now) in
    let id = id_of c.args.message.now in
    let later : g.H.Handler.DEFERS ≡ true = search rules in
    owed-comes (g.H.Handler.owes service.handler) request (verdict service.terms c.args.message.now)
    g.H.Handler.DEFERS c.args.notifier.now.line c.args.seq id c.args.door c.answer_by.result
    (λ call. g.met.H.Handler.owes_later service.handler request call c.args.seq id later) c.requires.door c.answer_by.ensures.owed
