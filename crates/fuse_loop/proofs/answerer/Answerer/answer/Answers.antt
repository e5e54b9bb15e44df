use Rattle.std.proofs.Common.{Result, subst}
use Rattle.fuse_reply.specs.Door.{DoorSeen}
use Rattle.fuse_reply.specs.declared.door.NoDoor.{NoDoor}
use Rattle.fuse_loop.specs.Answering.{MayComeLater}
use Rattle.fuse_loop.proofs.LoopSteps.{not-broken, prompt-shut}
use Rattle.fuse_loop.proofs.answerer.Answerer.answer.Goals as goal

pub returns-clause-answered : goal.returns-clause-answered
returns-clause-answered g c =
    let m = c.args.message.now in
    let out = c.answer.result in (
      c.answer.ensures.owed,
      (λ no. prompt-shut c.args.seq m out
          (subst (λ (door : Result DoorSeen NoDoor). MayComeLater door c.args.seq m out) (c.door_for-door.ensures.fits.0.1 no) c.answer.ensures.later)),
      not-broken m c.requires,
    )
