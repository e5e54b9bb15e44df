-- What a request came to without a door is owed.
use Rattle.fuse_header.specs.Header.{header_fields, request_of}
use Rattle.fuse_reply.specs.declared.door.NoDoor.TheVariants.{Shut}
use Rattle.fuse_loop.specs.Incoming.{id_of}
use Rattle.fuse_dispatch.specs.Verdict.{verdict}
use Rattle.fuse_dispatch.proofs.Deferring.{owed-at-once}
use Rattle.fuse_dispatch.proofs.dispatch.ServiceWork.answer.Goals as goal

pub returns-clause-owed : goal.returns-clause-owed
returns-clause-owed g c =
    let service = c.args.self.now in
    let m = c.args.message.now in
    owed-at-once (g.H.Handler.owes service.handler) (request_of (header_fields m)) (verdict service.terms m)
    c.args._seq (id_of m) Shut c.answer_by.result c.answer_by.ensures.owed
