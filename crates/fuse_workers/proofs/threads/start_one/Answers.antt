use Rattle.std.proofs.Common.{[], rules, subst, sym}
use Rattle.fuse_line.specs.Hand.{joined, with_other}
use Rattle.fuse_line.specs.declared.hand.Hand.{Hand}
use Rattle.fuse_reply.specs.declared.parcel.Parcel.{Parcel}
use Rattle.fuse_core.specs.OnePerMessage.{Owing}
use Rattle.fuse_workers.specs.Answered.{IsCaller, IsServed}
use Rattle.fuse_loop.specs.Answering.{answering}
use Rattle.fuse_core.specs.declared.state.Job.{Job}
use Rattle.fuse_workers.proofs.Working.{Caller-joined, Caller-split}
use Rattle.fuse_workers.proofs.threads.start_one.Goals as goal

pub returns-clause-caller : goal.returns-clause-caller
returns-clause-caller g c =
    let owed : Owing = answering (g.W.Work.owed c.args.context.now.work.now) g.W.Work.DEFERS in
    let back = c.worker-job_pass.result in
    let j = c.args.caller.now.jobs.hand in
    let f = c.args.caller.now.frames.hand in
    let served : IsServed owed back.0.hand back.1.hand = search rules in
    let apart = (Caller-split owed [] j f c.requires.caller).2 in
    let jobs = subst (λ (v : Hand Job). IsCaller owed [] v (with_other f)) (sym c.split-job_pass.ensures.hands.0) apart in
    let both = subst (λ (v : Hand Parcel). IsCaller owed [] c.split-job_pass.new.pass.hand v) (sym c.split-frame_pass.ensures.hands.0) jobs in
    let again = Caller-joined owed [] c.split-job_pass.new.pass.hand c.split-frame_pass.new.pass.hand back.0.hand back.1.hand
    served both in
    subst (λ (v : Hand Parcel). IsCaller owed [] c.join.new.pass.hand v) (sym c.join-in-Err.ensures.hand)
    (subst (λ (v : Hand Job). IsCaller owed [] v (joined c.split-frame_pass.new.pass.hand back.1.hand)) (sym c.join.ensures.hand) again)
