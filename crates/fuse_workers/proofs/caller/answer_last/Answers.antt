use Rattle.std.proofs.Common.{◌≡◌, ◌++◌, ◌∷◌, [], ◌∙◌, ℕ, List, ap, length, subst, sym}
use Rattle.fuse_line.specs.Hand.{with_put}
use Rattle.fuse_line.specs.declared.hand.Hand.{Hand}
use Rattle.fuse_reply.specs.Answer.Answer.{Empty}
use Rattle.fuse_reply.specs.Frame.{reply}
use Rattle.fuse_reply.specs.declared.out.Out.{Out}
use Rattle.fuse_reply.specs.declared.out.Out.TheVariants.{Frame}
use Rattle.fuse_reply.specs.declared.parcel.Parcel.{Parcel}
use Rattle.fuse_reply.specs.declared.parcel.Parcel.TheVariants.{Prompt}
use Rattle.fuse_wire.specs.Source.{NothingLeft, SourceFailed}
use Rattle.fuse_workers.specs.HandingOn.{answered_last}
use Rattle.fuse_workers.specs.Hearing.{StopsWith}
use Rattle.fuse_loop.specs.Incoming.{id_of}
use Rattle.fuse_workers.specs.declared.stopped.Stopped.{Stopped}
use Rattle.fuse_core.specs.OnePerMessage.{Owing, number_of}
use Rattle.fuse_workers.specs.Answered.{IsCaller}
use Rattle.fuse_loop.specs.Answering.{answering}
use Rattle.fuse_loop.proofs.LoopSteps.{destroy-not-broken}
use Rattle.fuse_workers.proofs.Working.{Caller-answered}
use Rattle.fuse_workers.proofs.caller.answer_last.Goals as goal

-- DESTROY is owed the empty reply that was pushed
pub returns-in-Destroy-clause-caller : goal.returns-in-Destroy-clause-caller
returns-in-Destroy-clause-caller g c ms before after hears caller =
    let owed : Owing = answering (g.W.Work.owed c.args.context.now.work.now) g.W.Work.DEFERS in
    let stops = subst (λ (s : Stopped). StopsWith s (number_of (length ms)) hears.last (NothingLeft after.source)
    (SourceFailed before.source after.source)) c.in-Destroy.is hears.stops in
    let m = stops.0 in
    let j = c.args.caller.now.jobs.hand in
    let f = c.args.caller.now.frames.hand in
    let frame : Out = Frame (reply (id_of m) Empty) in
    let law = (g.met.W.Work g.world.𝓛 g.world.𝓜 g.world.𝓡 ((λ s x. x), (λ x. x), (λ x. x), λ x. x)).owed_to_destroy in
    let pays : owed (number_of (length ms)) m frame =
    (law c.args.context.now.work.now (number_of (length ms)) m stops.2, (λ no. tt), destroy-not-broken m stops.2) in
    let answered = Caller-answered owed ms j f m frame caller pays in
    let is : frame ≡ c.destroy_reply-out.result = ap (λ (id : ℕ). Frame (reply id Empty)) (sym stops.3) ∙ sym c.destroy_reply-out.ensures in
    let numbered = subst (λ (n : ℕ). IsCaller owed (ms ++ m ∷ []) j (with_put f (Prompt n frame))) (sym stops.4) answered in
    let sent = subst (λ (out : Out). IsCaller owed (ms ++ m ∷ []) j (with_put f (Prompt c.in-Destroy.seq out))) is numbered in
    subst (λ (s : Stopped). IsCaller owed (ms ++ answered_last s hears.last) j c.push_waiting.new.pass.hand) (sym c.in-Destroy.is)
    (subst (λ (v : Hand Parcel). IsCaller owed (ms ++ hears.last) j v) (sym c.push_waiting.ensures.hand)
    (subst (λ (l : List (List ℕ)). IsCaller owed (ms ++ l) j (with_put f (Prompt c.in-Destroy.seq c.destroy_reply-out.result))) (sym stops.1) sent))
