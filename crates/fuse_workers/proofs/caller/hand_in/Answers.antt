use Rattle.std.proofs.Common.{◌++◌, ◌∷◌, [], ℕ, refl, subst, sym}
use Rattle.fuse_line.specs.Hand.{with_put}
use Rattle.fuse_line.specs.declared.hand.Hand.{Hand}
use Rattle.fuse_reply.specs.declared.parcel.Parcel.{Parcel}
use Rattle.fuse_reply.specs.declared.parcel.Parcel.TheVariants.{Prompt}
use Rattle.fuse_core.specs.OnePerMessage.{Owing}
use Rattle.fuse_workers.specs.Answered.{IsCaller}
use Rattle.fuse_loop.specs.Answering.{answering, job_of}
use Rattle.fuse_core.specs.declared.state.Job.{Job}
use Rattle.fuse_workers.proofs.Working.{Caller-answered, Caller-pushed}
use Rattle.fuse_workers.proofs.caller.hand_in.Goals as goal

pub returns-then-push_job-clause-caller : goal.returns-then-push_job-clause-caller
returns-then-push_job-clause-caller g c ms number caller =
    let owed : Owing = answering (g.W.Work.owed c.args.context.now.work.now) g.W.Work.DEFERS in
    let m = c.args.message.now in
    subst (λ (v : Hand Job). IsCaller owed (ms ++ m ∷ []) v c.args.caller.now.frames.hand) (sym c.if-push_job.ensures.hand)
    (Caller-pushed owed ms c.args.caller.now.jobs.hand c.args.caller.now.frames.hand m (job_of c.args.seq m) caller number refl)

pub returns-clause-caller : goal.returns-clause-caller
returns-clause-caller g c ms number caller =
    let owed : Owing = answering (g.W.Work.owed c.args.context.now.work.now) g.W.Work.DEFERS in
    let m = c.args.message.now in
    let out = c.answer-out.result in
    let there : owed c.args.seq m out = c.answer-out.ensures.answered in
    let f = c.args.caller.now.frames.hand in
    let answered = Caller-answered owed ms c.args.caller.now.jobs.hand f m out caller (subst (λ (n : ℕ). owed n m out) (sym number) there) in
    let numbered = subst (λ (n : ℕ). IsCaller owed (ms ++ m ∷ []) c.args.caller.now.jobs.hand (with_put f (Prompt n out))) number answered in
    subst (λ (v : Hand Parcel). IsCaller owed (ms ++ m ∷ []) c.push_job.new.pass.hand v) (sym c.push_waiting.ensures.hand)
    (subst (λ (v : Hand Job). IsCaller owed (ms ++ m ∷ []) v (with_put f (Prompt c.args.seq out))) (sym c.if-push_job.ensures.hand) numbered)
