use Rattle.fuse_workers.specs.Relays.{relay_of}
use Rattle.fuse_workers.proofs.ServingAlone.{alone-hand}
use Rattle.fuse_workers.proofs.alone.take_turn.Goals as goal

pub returns-clause-turn : goal.returns-clause-turn
returns-clause-turn g c =
    let rest = c.send_rest.ensures.more in (
      rest.0,
      alone-hand c.args.pass.now.hand c.send_rest.new.pass.hand rest.0 c.requires.hand rest.1,
      relay_of c.answer_next-stopped.new.relay.outlet c.answer_next-stopped.new.relay.book,
      rest.2,
      c.answer_next-stopped.ensures.turn,
    )
