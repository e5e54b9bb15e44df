use Rattle.std.proofs.Common.{◌≡◌, ◌∙◌, [], ℕ, List, ap, refl, subst, sym}
use Rattle.fuse_reply.specs.Answer.Answer.{Empty}
use Rattle.fuse_reply.specs.Frame.{reply}
use Rattle.fuse_reply.specs.declared.out.Out.{Out}
use Rattle.fuse_reply.specs.declared.out.Out.TheVariants.{Frame}
use Rattle.fuse_workers.specs.Alone.{AnswersLast}
use Rattle.fuse_workers.specs.Hearing.{HearsLast}
use Rattle.fuse_workers.specs.Relays.{relay_of}
use Rattle.fuse_workers.specs.declared.stopped.Stopped.{Stopped}
use Rattle.fuse_loop.specs.Answering.{answering}
use Rattle.fuse_loop.specs.Incoming.{id_of}
use Rattle.fuse_core.specs.OnePerMessage.{Owing}
use Rattle.fuse_loop.proofs.LoopSteps.{destroy-not-broken}
use Rattle.fuse_workers.proofs.alone.answer_next.Goals as goal

-- DESTROY is owed the empty reply that was handed on
pub returns-in-Destroy-clause-turn : goal.returns-in-Destroy-clause-turn
returns-in-Destroy-clause-turn g c =
    let owed : Owing = answering (g.W.Work.owed c.args.context.now.work.now) g.W.Work.DEFERS in
    let hears = subst (λ (s : Stopped). HearsLast s c.args.seq [] c.args.intake.now c.take_request.new.intake) c.in-Destroy.is
    c.in-Err.ensures.heard in
    let stops = hears.stops in
    let m = stops.0 in
    let out = c.destroy_reply.result in
    let law = (g.met.W.Work g.world.𝓛 g.world.𝓜 g.world.𝓡 ((λ s x. x), (λ x. x), (λ x. x), λ x. x)).owed_to_destroy in
    let is : Frame (reply (id_of m) Empty) ≡ out = ap (λ (id : ℕ). Frame (reply id Empty)) (sym stops.3) ∙ sym c.destroy_reply.ensures in
    let pays : owed c.args.seq m out =
    subst (λ (o : Out). owed c.args.seq m o) is (law c.args.context.now.work.now c.args.seq m stops.2, (λ _. tt), destroy-not-broken m stops.2) in (
      hears,
      subst (λ (l : List (List ℕ)). AnswersLast owed c.args.seq l (relay_of c.args.relay.now.outlet c.args.relay.now.book)
          (relay_of c.deliver-in-Destroy.new.self.outlet c.deliver-in-Destroy.new.self.book)) (sym stops.1)
          (refl, out, pays, c.deliver-in-Destroy.ensures),
    )
