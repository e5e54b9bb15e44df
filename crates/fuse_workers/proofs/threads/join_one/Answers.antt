use Rattle.std.proofs.Common.{subst, sym}
use Rattle.fuse_line.specs.Hand.{joined}
use Rattle.fuse_line.specs.declared.hand.Hand.{Hand}
use Rattle.fuse_reply.specs.declared.parcel.Parcel.{Parcel}
use Rattle.fuse_core.specs.OnePerMessage.{Owing}
use Rattle.fuse_workers.specs.Answered.{IsCaller, IsServed}
use Rattle.fuse_loop.specs.Answering.{answering}
use Rattle.fuse_core.specs.declared.state.Job.{Job}
use Rattle.fuse_workers.proofs.Working.{Caller-joined}
use Rattle.fuse_workers.proofs.threads.join_one.Goals as goal

pub returns-clause-caller : goal.returns-clause-caller
returns-clause-caller g c ms caller =
    let owed : Owing = answering (g.W.Work.owed c.args.context.now.work.now) g.W.Work.DEFERS in
    let back = c.join-job_pass.result in
    let j = c.args.caller.now.jobs.hand in
    let f = c.args.caller.now.frames.hand in
    let served : IsServed owed back.0.hand back.1.hand =
    subst (λ (w : g.row.W.Denot). IsServed (answering (g.W.Work.owed w) g.W.Work.DEFERS) back.0.hand back.1.hand)
    c.requires.promise.0 c.join-job_pass.ensures.2 in
    let both = Caller-joined owed ms j f back.0.hand back.1.hand served caller in
    subst (λ (v : Hand Parcel). IsCaller owed ms c.join.new.pass.hand v) (sym c.join-2.ensures.hand)
    (subst (λ (v : Hand Job). IsCaller owed ms v (joined f back.1.hand)) (sym c.join.ensures.hand) both)
