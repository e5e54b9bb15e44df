use Rattle.std.proofs.Common.{refl}
use Rattle.fuse_loop.specs.Lines.{notices_in}
use Rattle.fuse_loop.specs.Progress.{beside}
use Rattle.fuse_loop.proofs.LoopSteps.{OneTurn-beside}
use Rattle.fuse_loop.proofs.event_loop.next_turn.Goals as goal

-- what is taken off the line of frames stands beside the turn, and changes with the notices alone
pub returns-clause-turn : goal.returns-clause-turn
returns-clause-turn g c =
    let unasked = notices_in c.args.frames.now.hand.taken in (
      beside c.take_turn-ended.new.channel.progress unasked,
      refl,
      OneTurn-beside (g.W.Work.owed c.args.work.now) c.args.seq c.take_turn-ended.result c.args.channel.now.progress
          c.take_turn-ended.new.channel.progress unasked c.take_turn-ended.ensures.unasked c.take_turn-ended.ensures.turn,
      c.pass_on_notices-drained.ensures.notices,
    )
