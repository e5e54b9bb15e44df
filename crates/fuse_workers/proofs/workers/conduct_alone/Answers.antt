use Rattle.std.proofs.Common.{◌∙◌, ◌++◌, [], ap, refl}
use Rattle.fuse_line.specs.Hand.{hand, joined}
use Rattle.fuse_line.specs.Seen.{Seen}
use Rattle.fuse_line.specs.declared.hand.Hand.{Hand}
use Rattle.fuse_line.specs.declared.hand.Kind.TheVariants.{First}
use Rattle.fuse_reply.specs.declared.parcel.Parcel.{Parcel}
use Rattle.fuse_workers.specs.Relays.{relay_of}
use Rattle.fuse_loop.specs.Answering.{answering}
use Rattle.fuse_core.specs.declared.state.Job.{Job}
use Rattle.fuse_workers.proofs.ServingAlone.{alone-itself}
use Rattle.fuse_workers.proofs.Conducting.{Conducts-alone, joined-sender}
use Rattle.fuse_workers.proofs.workers.conduct_alone.Goals as goal

pub answer_alone-stopped-requires-clause-hand : goal.answer_alone-stopped-requires-clause-hand
answer_alone-stopped-requires-clause-hand g c κs within =
    let v = c.args.back.pass.hand in
    alone-itself c.join.new.pass.hand v.taken (c.join.ensures.hand ∙ (ap (λ (h : Hand Parcel). joined h v) c.requires.hands.1
    ∙ joined-sender (hand First 1 [] []) v c.requires.sender.1 refl refl c.requires.sender.0 refl))

pub returns-clause-conducts : goal.returns-clause-conducts
returns-clause-conducts g c before relayed =
    let v = c.args.back.pass.hand in
    let there = c.join.ensures.hand ∙ (ap (λ (h : Hand Parcel). joined h v) c.requires.hands.1
    ∙ joined-sender (hand First 1 [] []) v relayed.no_put refl refl relayed.kind refl) in
    let alone = c.answer_alone-stopped.ensures.alone in
    Conducts-alone (answering (g.W.Work.owed c.args.context.now.work.now) g.W.Work.DEFERS) c.answer_alone-stopped.result.0 c.args.intake.now
    c.answer_alone-stopped.new.intake before (relay_of c.args.back.relay.now.outlet c.args.back.relay.now.book)
    (relay_of c.answer_alone-stopped.new.relay.outlet c.answer_alone-stopped.new.relay.book)
    c.answer_alone-stopped.new.caller.jobs.hand v c.answer_alone-stopped.new.caller.frames.hand alone.0
    (ap (λ (s : Seen Job). s.hand) c.answer_alone-stopped.ensures.same.0 ∙ c.requires.hands.0) relayed
    (alone.1 ∙ ap (λ (h : Hand Parcel). hand First 0 [] (h.taken ++ alone.0)) there) alone.2 c.answer_alone-stopped.ensures.settled
