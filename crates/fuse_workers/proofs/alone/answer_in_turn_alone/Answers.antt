use Rattle.std.proofs.Common.{◌∙◌, ◌++◌, ◌∷◌, [], ap, append-nil, append_assoc, arith, length-append, List, refl, sym}
use Rattle.fuse_line.specs.Hand.{hand}
use Rattle.fuse_line.specs.declared.hand.Kind.TheVariants.{First}
use Rattle.fuse_reply.specs.declared.parcel.Parcel.{Parcel}
use Rattle.fuse_workers.specs.Pairing.{outs_of}
use Rattle.fuse_workers.specs.Relays.{relay_of}
use Rattle.fuse_workers.proofs.ServingAlone.{ServesOn-last, ServesOn-next, ServesOn-none, alone-itself, alone-taken, alone-unprompted, outs-then}
use Rattle.fuse_workers.proofs.alone.answer_in_turn_alone.Goals as goal

pub loop-init : goal.loop-init
loop-init g c =
    let taken = c.args.pass.now.hand.taken in (
      c.requires.line,
      refl,
      [],
      c.requires.hand ∙ ap (λ (l : List Parcel). hand First 0 [] l) (sym (append-nil taken)),
      ap outs_of (append-nil taken) ∙ c.requires.unprompted,
      [],
      refl,
      ServesOn-none _ _ _,
      refl,
    )

pub take_turn-requires-clause-hand : goal.take_turn-requires-clause-hand
take_turn-requires-clause-hand g c κs within = alone-itself c.loop.pass.hand _ c.loop.invariant.3

pub returns-in-Some-take_turn-clause-hand : goal.returns-in-Some-take_turn-clause-hand
returns-in-Some-take_turn-clause-hand g c =
    let so_far = c.loop.invariant in
    let turn = c.in-Some-take_turn.ensures.turn in
    let all = alone-taken c.args.pass.now.hand.taken so_far.2 turn.0 c.loop.pass.hand c.take_turn.new.pass.hand so_far.3 turn.1 in
    let none = outs-then (c.args.pass.now.hand.taken ++ so_far.2) turn.0 so_far.4
    (ap outs_of (append_assoc c.args.pass.now.hand.taken so_far.2 turn.0) ∙ alone-unprompted c.take_turn.new.pass.hand _ all c.take_turn.ensures.settled) in (
      so_far.2 ++ turn.0,
      all,
      ServesOn-last so_far.7 c.in-Some-take_turn.stopped turn.2 (relay_of c.take_turn.new.relay.outlet c.take_turn.new.relay.book) turn.0 turn.3 none
          c.loop.seq so_far.6 turn.4.0 turn.4.1,
    )

pub loop-preserved : goal.loop-preserved
loop-preserved g c =
    let so_far = c.loop.invariant in
    let turn = c.in-None-take_turn.ensures.turn in
    let all = alone-taken c.args.pass.now.hand.taken so_far.2 turn.0 c.loop.pass.hand c.take_turn.new.pass.hand so_far.3 turn.1 in
    let outs = alone-unprompted c.take_turn.new.pass.hand _ all c.take_turn.ensures.settled in
    let none = outs-then (c.args.pass.now.hand.taken ++ so_far.2) turn.0 so_far.4
    (ap outs_of (append_assoc c.args.pass.now.hand.taken so_far.2 turn.0) ∙ outs) in (
      c.take_turn.ensures.line.0,
      c.take_turn.ensures.line.1 ∙ so_far.1,
      so_far.2 ++ turn.0,
      all,
      outs,
      so_far.5 ++ turn.4.0 ∷ [],
      omega (arith, length-append so_far.5 (turn.4.0 ∷ []), so_far.6, c.saturating_add-seq.ensures),
      ServesOn-next so_far.7 turn.4.0 c.loop.seq turn.2 (relay_of c.take_turn.new.relay.outlet c.take_turn.new.relay.book)
          turn.0 so_far.6 turn.4.1 (refl, turn.4.2, turn.4.3, turn.4.4) turn.3 none,
      c.take_turn.ensures.doors ∙ so_far.8,
    )
