use Rattle.std.proofs.Common.{◌++◌, ◌∷◌, [], ◌∙◌, ℕ, arith, length, length-append, refl, subst, sym}
use Rattle.fuse_line.specs.declared.hand.Hand.{Hand}
use Rattle.fuse_reply.specs.declared.parcel.Parcel.{Parcel}
use Rattle.fuse_workers.specs.Hearing.{HearsLast}
use Rattle.fuse_core.specs.OnePerMessage.{Owing, number_of}
use Rattle.fuse_workers.specs.Answered.{IsCaller}
use Rattle.fuse_loop.specs.Answering.{answering}
use Rattle.fuse_core.specs.declared.state.Job.{Job}
use Rattle.fuse_workers.proofs.Hearing.{HearsLast-then, HearsOn-none, HearsOn-then}
use Rattle.fuse_workers.proofs.caller.take_messages.Goals as goal

pub loop-init : goal.loop-init
loop-init g c = (c.requires.lines.0, c.requires.lines.1, refl, refl, [], refl, HearsOn-none _, c.requires.caller, c.requires.lines.2, λ none. refl)

pub returns-in-Some-take_one-clause-heard : goal.returns-in-Some-take_one-clause-heard
returns-in-Some-take_one-clause-heard g c =
    let owed : Owing = answering (g.W.Work.owed c.args.context.now.work.now) g.W.Work.DEFERS in
    let so_far = c.loop.invariant in
    let ms = so_far.4 in
    let turn = c.in-Some-take_one.ensures.turn in (
      ms,
      HearsLast-then c.in-Some-take_one.stopped (number_of (length ms)) ms _ _ _ so_far.6
          (subst (λ (n : ℕ). HearsLast c.in-Some-take_one.stopped n [] c.loop.intake c.take_one.new.intake) (sym so_far.5) turn.2),
      subst (λ (v : Hand Parcel). IsCaller owed ms c.take_one.new.caller.jobs.hand v) (sym turn.1)
          (subst (λ (v : Hand Job). IsCaller owed ms v c.loop.caller.frames.hand) (sym turn.0) so_far.7),
    )

pub loop-preserved : goal.loop-preserved
loop-preserved g c =
    let so_far = c.loop.invariant in
    let ms = so_far.4 in
    let next = c.in-None-take_one.ensures.turn ms so_far.5 so_far.7 in (
      c.take_one.ensures.lines.0,
      c.take_one.ensures.lines.1,
      c.take_one.ensures.others.0 ∙ so_far.2,
      c.take_one.ensures.others.1 ∙ so_far.3,
      ms ++ next.0 ∷ [],
      omega (arith, length-append ms (next.0 ∷ []), so_far.5, c.saturating_add-seq.ensures),
      HearsOn-then ms (next.0 ∷ []) _ _ _ so_far.6 next.1,
      next.2,
      c.take_one.ensures.lines.2,
      λ none.
          let before = sym c.take_one.ensures.others.0 ∙ none in
          c.take_one.ensures.alone before ∙ so_far.9 before,
    )
