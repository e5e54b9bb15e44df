use Rattle.std.proofs.Common.{rules, subst}
use Rattle.fuse_workers.specs.Conducting.{Conducts}
use Rattle.fuse_loop.specs.Progress.{IntakeState}
use Rattle.fuse_workers.specs.Relays.{relay_of}
use Rattle.fuse_loop.specs.Answering.{answering}
use Rattle.fuse_workers.specs.declared.relay.Relay.{Relay}
use Rattle.fuse_workers.proofs.workers.run_with.Goals as goal

-- what was lent is as the run left it
pub returns-clause-conducts : goal.returns-clause-conducts
returns-clause-conducts g c =
    let owed = answering (g.W.Work.owed c.args.context.now.work.now) g.W.Work.DEFERS in
    let back = c.run_in_scope-stopped.result in
    let before = relay_of c.args.parts.relay.outlet c.args.parts.relay.book in
    subst (λ (r : Relay g.row.K.Denot). Conducts owed back.0 c.args.parts.intake c.intake-2-1.given.0 before
    (relay_of r.outlet r.book) back.1.caller.jobs.hand back.1.caller.frames.hand) (search rules)
    (subst (λ (i : IntakeState). Conducts owed back.0 c.args.parts.intake i before (relay_of back.1.relay.now.outlet back.1.relay.now.book)
    back.1.caller.jobs.hand back.1.caller.frames.hand) (search rules) c.run_in_scope-stopped.ensures.conducts)
