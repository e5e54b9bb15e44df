use Rattle.std.proofs.Common.{◌≡◌, ◌∙◌, ◌+◌, [], ap, length, rules}
use Rattle.std.specs.Vec.{vec_len}
use Rattle.fuse_line.specs.Hand.{hand, with_other}
use Rattle.fuse_line.specs.declared.hand.Hand.{Hand}
use Rattle.fuse_line.specs.declared.hand.Kind.TheVariants.{First}
use Rattle.fuse_reply.specs.declared.parcel.Parcel.{Parcel}
use Rattle.fuse_workers.specs.Relays.{IsRelayed, relay_of}
use Rattle.fuse_loop.specs.Answering.{answering}
use Rattle.fuse_workers.proofs.Conducting.{Conducts-answered}
use Rattle.fuse_workers.proofs.Starting.{AsksUpTo-none, AsksUpTo-one}
use Rattle.fuse_workers.proofs.Working.{Caller-idle}
use Rattle.fuse_workers.proofs.workers.conduct.Goals as goal

pub start_workers-workers-requires-clause-caller : goal.start_workers-workers-requires-clause-caller
start_workers-workers-requires-clause-caller g c κs within =
    let split : c.split-pass.new.pass.hand ≡ hand First 1 [] [] = c.split-pass.ensures.hands.0 ∙ ap (λ (h : Hand Parcel). with_other h) c.requires.hands.1 in
    Caller-idle (answering (g.W.Work.owed c.args.context.now.work.now) g.W.Work.DEFERS) c.args.lent.caller.jobs.hand
    c.split-pass.new.pass.hand c.requires.hands.0 split

pub returns-in-Err-clause-conducts : goal.returns-in-Err-clause-conducts
returns-in-Err-clause-conducts g c =
    c.conduct_alone.ensures.conducts (relay_of c.args.lent.relay.now.outlet c.args.lent.relay.now.book) c.in-Err.ensures.started.2

pub returns-clause-conducts : goal.returns-clause-conducts
returns-clause-conducts g c =
    let answered = c.answer_all-stopped.ensures.answered in
    let rest = c.send_last-closed.ensures.more in
    let back = c.join-relay.result in
    let relayed : IsRelayed back.pass.hand (relay_of c.args.lent.relay.now.outlet c.args.lent.relay.now.book)
    (relay_of back.relay.now.outlet back.relay.now.book) = search rules in
    Conducts-answered (answering (g.W.Work.owed c.args.context.now.work.now) g.W.Work.DEFERS) c.answer_all-stopped.result c.args.lent.intake.now
    c.answer_all-stopped.new.intake (relay_of c.args.lent.relay.now.outlet c.args.lent.relay.now.book) (relay_of back.relay.now.outlet back.relay.now.book)
    (relay_of c.send_last-closed.new.relay.outlet c.send_last-closed.new.relay.book) c.answer_all-stopped.new.caller.jobs.hand
    c.answer_all-stopped.new.caller.frames.hand back.pass.hand c.send_last-closed.new.pass.hand rest.0 answered.0 answered.1 answered.2
    c.answer_all-stopped.ensures.others.0 c.answer_all-stopped.ensures.others.1 c.answer_all-stopped.ensures.settled relayed (search rules) rest.2
    c.send_last-closed.ensures.settled

pub returns-in-Err-clause-starts : goal.returns-in-Err-clause-starts
returns-in-Err-clause-starts g c = (
  0,
  AsksUpTo-none (length c.args.flags.now) _ _ _ c.ask-may_start.ensures
      (ap (λ (t : g.row.T.Denot). g.T.Starter.told t) c.conduct_alone.ensures.starter ∙ c.refuse.ensures),
)

pub returns-clause-starts : goal.returns-clause-starts
returns-clause-starts g c = (
  1 + vec_len c.start_workers-workers.result,
  AsksUpTo-one (length c.args.flags.now) (vec_len c.start_workers-workers.result) _ _ _ c.ask-may_start.ensures
      c.start_workers-workers.ensures.starts,
)
