use Rattle.std.proofs.Common.{sym, subst, false}
use Rattle.std.proofs.lemmas.Grind.{merely}
use Rattle.fuse_wire.specs.StreamSink.{Stands, stream_sink_told}
use Rattle.fuse_wire.proofs.StreamLaws.{Stands-new}
use Rattle.fuse_wire.proofs.stream_sink.StreamSink.new.Goals as goal

pub invariant_of-result : goal.invariant_of-result
invariant_of-result g c =
    let told = g.O.ByteSink.told in
    record {
      stands =
          subst (λ origin. ∥ Stands (stream_sink_told (told origin) (told c.args.inner) false 0) (told c.args.inner) false ∥₁)
          (sym c.of-origin.ensures) (merely (Stands-new (told c.args.inner)));
    }
