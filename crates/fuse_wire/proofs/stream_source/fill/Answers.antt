use Rattle.std.proofs.Common.{◌-◌, length, arith}
use Rattle.std.proofs.lemmas.Grind.{common_steps}
use Rattle.fuse_wire.proofs.Devices.{TakesBytes-then}
use Rattle.fuse_wire.proofs.Filling.{take-put_mid_into}
use Rattle.fuse_wire.proofs.stream_source.fill.Goals as goal

pub loop-count-preserved : goal.loop-count-preserved
loop-count-preserved g c =
    let s = c.loop-count in
    record {
      fits = grind (arith, common_steps, c.in-Got.ensures);
      taken =
          rw (take-put_mid_into s.count (length s.piece - s.count) c.in-Got.more s.piece c.read.new.piece s.invariant.fits c.in-Got.ensures.1)
          (TakesBytes-then _ _ _ _ _ s.invariant.taken c.in-Got.ensures.2);
    }
