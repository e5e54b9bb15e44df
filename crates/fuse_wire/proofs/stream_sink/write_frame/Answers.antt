-- The header was written; what became of the payload decides.
use Rattle.fuse_wire.proofs.StreamLaws.{WritesAll-append}
use Rattle.fuse_wire.proofs.stream_sink.write_frame.Goals as goal

pub returns-then-write_all : goal.returns-then-write_all
returns-then-write_all g c =
    WritesAll-append c.write_all-then-write_all.result c.args.header.now c.args.payload.now _
    (g.O.ByteSink.told c.write_all.new.output) _ c.if-write_all.ensures c.write_all-then-write_all.ensures
