-- One more write puts the next bytes after the front that was written.
use Rattle.std.proofs.Common.{◌≡◌, ◌-◌, ◌≤◌, ap, ◌∙◌, arith, length-drop, length, take, drop}
use Rattle.std.proofs.lemmas.List.{take_rest}
use Rattle.fuse_wire.proofs.StreamLaws.{PutsBytes-take}
use Rattle.fuse_wire.proofs.byte_sink.write_all.Goals as goal

pub loop-count-preserved : goal.loop-count-preserved
loop-count-preserved g c =
    let left : take (length c.args.piece.now - c.loop-count.count) (drop c.loop-count.count c.args.piece.now) ≡ drop c.loop-count.count c.args.piece.now =
    take_rest c.args.piece.now c.loop-count.count in
    let fits : c.in-Wrote.more ≤ length (take (length c.args.piece.now - c.loop-count.count) (drop c.loop-count.count c.args.piece.now)) =
    c.in-Wrote.ensures.1 in
    record {
      within = omega (arith, fits, ap length left ∙ length-drop c.loop-count.count c.args.piece.now);
      put = PutsBytes-take c.args.piece.now _ c.loop-count.count c.in-Wrote.more _ (g.O.ByteSink.told c.loop-count.output) _
          left c.loop-count.invariant.put c.in-Wrote.ensures.2;
    }
