use Rattle.std.proofs.Common.{subst, sym}
use Rattle.fuse_line.specs.Hand.{with_put, with_taken}
use Rattle.fuse_line.specs.declared.hand.Hand.{Hand}
use Rattle.fuse_reply.specs.declared.parcel.Parcel.{Parcel}
use Rattle.fuse_core.specs.OnePerMessage.{Owing}
use Rattle.fuse_workers.specs.Answered.{IsServed}
use Rattle.fuse_loop.specs.Answering.{answering}
use Rattle.fuse_core.specs.declared.state.Job.{Job}
use Rattle.fuse_workers.proofs.Working.{Served-next}
use Rattle.fuse_workers.proofs.worker.answer_jobs.Goals as goal

-- one job more was taken, and its answer pushed
pub loop-preserved : goal.loop-preserved
loop-preserved g c =
    let owed : Owing = answering (g.W.Work.owed c.args.context.now.work.now) g.W.Work.DEFERS in
    let x = c.in-Some-pop_waiting.job in
    let said = c.answer_job-parcel.ensures.answered in
    let served = Served-next owed c.loop.job_pass.hand c.loop.frame_pass.hand x said.0 c.loop.invariant.4 said.2 in
    let pushed = subst (λ (p : Parcel). IsServed owed (with_taken c.loop.job_pass.hand x) (with_put c.loop.frame_pass.hand p)) (sym said.1) served in (
      tt,
      tt,
      c.pop_waiting.ensures.line,
      c.push_waiting.ensures.line,
      subst (λ (v : Hand Parcel). IsServed owed c.pop_waiting.new.pass.hand v) (sym c.push_waiting.ensures.hand)
          (subst (λ (v : Hand Job). IsServed owed v (with_put c.loop.frame_pass.hand c.answer_job-parcel.result))
          (sym c.in-Some-pop_waiting.ensures.hand) pushed),
    )
