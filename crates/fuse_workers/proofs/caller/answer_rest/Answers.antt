use Rattle.std.proofs.Common.{◌∙◌, ap, subst, sym}
use Rattle.fuse_line.specs.Hand.{with_put, with_taken}
use Rattle.fuse_line.specs.declared.hand.Hand.{Hand}
use Rattle.fuse_reply.specs.declared.parcel.Parcel.{Parcel}
use Rattle.fuse_core.specs.OnePerMessage.{Owing}
use Rattle.fuse_workers.specs.Answered.{IsCaller}
use Rattle.fuse_loop.specs.Answering.{answering}
use Rattle.fuse_core.specs.declared.state.Job.{Job}
use Rattle.fuse_workers.proofs.Working.{Caller-rest}
use Rattle.fuse_workers.proofs.caller.answer_rest.Goals as goal

-- one job more was taken, and its answer pushed
pub loop-preserved : goal.loop-preserved
loop-preserved g c =
    let owed : Owing = answering (g.W.Work.owed c.args.context.now.work.now) g.W.Work.DEFERS in
    let so_far = c.loop.invariant in
    let j = c.loop.caller.jobs.hand in
    let f = c.loop.caller.frames.hand in
    let x = c.in-Some-pop.job in
    let said = c.answer_job-parcel.ensures.answered in
    let took = c.in-Some-pop.ensures.hand in
    let put = c.push_waiting.ensures.hand in (
      c.pop.ensures.line,
      c.push_waiting.ensures.line,
      ap (λ (v : Hand Job). v.kind) took ∙ so_far.2,
      ap (λ (v : Hand Parcel). v.kind) put ∙ so_far.3,
      ap (λ (v : Hand Job). v.others) took ∙ so_far.4,
      ap (λ (v : Hand Parcel). v.others) put ∙ so_far.5,
      λ ms caller.
          let rest = Caller-rest owed ms j f x said.0 (so_far.6 ms caller) said.2 in
          let pushed = subst (λ (p : Parcel). IsCaller owed ms (with_taken j x) (with_put f p)) (sym said.1) rest in
          subst (λ (v : Hand Parcel). IsCaller owed ms c.pop.new.pass.hand v) (sym put)
          (subst (λ (v : Hand Job). IsCaller owed ms v (with_put f c.answer_job-parcel.result)) (sym took) pushed),
      c.answer_job-parcel.ensures.line ∙ so_far.7,
    )
