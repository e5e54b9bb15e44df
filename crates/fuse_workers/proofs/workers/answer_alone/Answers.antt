use Rattle.std.proofs.Common.{◌++◌, ◌∙◌, [], List, ap, append_assoc}
use Rattle.fuse_line.specs.Hand.{hand}
use Rattle.fuse_line.specs.declared.hand.Kind.TheVariants.{First}
use Rattle.fuse_reply.specs.declared.parcel.Parcel.{Parcel}
use Rattle.fuse_loop.specs.Answering.{answering}
use Rattle.fuse_workers.proofs.ServingAlone.{ServesAlone-after, alone-hand, alone-itself, alone-taken, alone-unprompted, outs-first, outs-then}
use Rattle.fuse_workers.proofs.workers.answer_alone.Goals as goal

pub answer_in_turn_alone-stopped-requires-clause-unprompted : goal.answer_in_turn_alone-stopped-requires-clause-unprompted
answer_in_turn_alone-stopped-requires-clause-unprompted g c κs within =
    let first = c.send_rest.ensures.more in
    let told = alone-hand c.args.caller.now.frames.hand c.send_rest.new.pass.hand first.0 c.requires.hand first.1 in
    alone-unprompted c.send_rest.new.pass.hand _ (alone-itself c.send_rest.new.pass.hand _ told) c.send_rest.ensures.settled

pub returns-clause-alone : goal.returns-clause-alone
returns-clause-alone g c =
    let taken = c.args.caller.now.frames.hand.taken in
    let first = c.send_rest.ensures.more in
    let first_hand = alone-hand c.args.caller.now.frames.hand c.send_rest.new.pass.hand first.0 c.requires.hand first.1 in
    let first_outs = alone-unprompted c.send_rest.new.pass.hand _ first_hand c.send_rest.ensures.settled in
    let alone = c.answer_in_turn_alone-stopped.ensures.hand in
    let mid = c.answer_in_turn_alone-stopped.new.pass.hand in
    let mid_hand = alone-taken taken first.0 alone.0 c.send_rest.new.pass.hand mid first_hand alone.1 in
    let last = c.send_last-closed.ensures.more in
    let last_is = alone-hand mid c.send_last-closed.new.pass.hand last.0 (alone-itself mid _ mid_hand) last.1 in
    let last_hand = alone-taken taken (first.0 ++ alone.0) last.0 mid c.send_last-closed.new.pass.hand mid_hand last_is in
    let last_outs = alone-unprompted c.send_last-closed.new.pass.hand _ last_is c.send_last-closed.ensures.settled in (
      first.0 ++ (alone.0 ++ last.0),
      last_hand ∙ ap (λ (l : List Parcel). hand First 0 [] (taken ++ l)) (append_assoc first.0 alone.0 last.0),
      ServesAlone-after (answering (g.W.Work.owed c.args.context.now.work.now) g.W.Work.DEFERS) _ first.0 alone.0 last.0 _ _ _ _ _ _ first.2
          (outs-then taken first.0 (outs-first taken first.0 first_outs) first_outs) alone.2 last.2
          (outs-then mid.taken last.0 (outs-first mid.taken last.0 last_outs) last_outs),
    )
