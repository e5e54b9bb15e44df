use Rattle.std.proofs.Common.{ℕ, List, ap, subst}
use Rattle.fuse_reply.specs.declared.parcel.Parcel.TheVariants.{Prompt}
use Rattle.fuse_core.specs.OnePerMessage.{Owing}
use Rattle.fuse_loop.specs.Answering.{answering}
use Rattle.fuse_workers.proofs.worker.answer_job.Goals as goal

pub returns-clause-answered : goal.returns-clause-answered
returns-clause-answered g c =
    let owed : Owing = answering (g.W.Work.owed c.args.context.now.work.now) g.W.Work.DEFERS in
    let out = c.answer-out.result in
    let seq = c.seq-seq.result in
    let m = c.message.result.now in
    let there : owed seq m out = c.answer-out.ensures.answered in (
      out,
      ap (λ (n : ℕ). Prompt n out) c.seq-seq.ensures,
      subst (λ (l : List ℕ). owed c.args.job.seq l out) c.message.ensures.message
          (subst (λ (n : ℕ). owed n m out) c.seq-seq.ensures there),
    )
