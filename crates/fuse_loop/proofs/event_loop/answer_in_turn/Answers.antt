use Rattle.std.proofs.Common.{arith, length, None, Some, refl, ◌∙◌}
use Rattle.fuse_loop.proofs.LoopSteps.{RunOn-none, RunOn-then, Run-then, OneTurn-known}
use Rattle.fuse_loop.proofs.event_loop.answer_in_turn.Goals as goal

pub loop-init : goal.loop-init
loop-init g c = let none = RunOn-none _ in (none.0, none.1, refl, refl, refl)

pub returns-in-Some-ended-clause-run : goal.returns-in-Some-ended-clause-run
returns-in-Some-ended-clause-run g c =
    let owed = g.W.Work.owed c.args.work.now in
    let so_far = c.loop.invariant in
    let turn = c.next_turn-ended.ensures.turn in
    let ends = OneTurn-known owed c.loop.seq _ (Some c.in-Some-ended.end) _ _ _ c.in-Some-ended.is turn.2 turn.3 in
    Run-then so_far.0 (ends (length so_far.0.turns) so_far.1)

pub loop-preserved : goal.loop-preserved
loop-preserved g c =
    let owed = g.W.Work.owed c.args.work.now in
    let so_far = c.loop.invariant in
    let turn = c.next_turn-ended.ensures.turn in
    let goes_on = OneTurn-known owed c.loop.seq _ None _ _ _ c.in-None-ended.is turn.2 turn.3 in
    let next = goes_on (length so_far.0.turns) so_far.1 in
    let more = RunOn-then so_far.0 next.0 in (
      more.0,
      omega (arith, more.1, next.1, so_far.1, c.saturating_add-seq.ensures),
      c.next_turn-ended.ensures.lines.0 ∙ so_far.2,
      c.next_turn-ended.ensures.lines.1 ∙ so_far.3,
      tt,
    )
