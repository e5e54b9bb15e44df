-- Where a write fails, a front of the piece may stand below.
use Rattle.fuse_wire.proofs.Below.{front_flushed, front_written}
use Rattle.fuse_wire.proofs.std_sink.StdSinkByteSink.write.Goals as goal
use Rattle.fuse_wire.proofs.std_sink.StdSinkByteSink.write.Goals.{in-Ok+else-count-gt0}
use Rattle.fuse_wire.proofs.std_sink.StdSinkByteSink.write.Goals.{else-count-gt0-via-then-count-gt0+else-is_ok}
use Rattle.fuse_wire.proofs.std_sink.StdSinkByteSink.write.Goals.{else-count-gt0-via-else-count-gt0, in_default}

pub returns-clause-below : goal.returns-clause-below
returns-clause-below g c = elim c.match-write.branch [
  | in-Ok+else-count-gt0 w ↦ elim w.else-count-gt0.branch [
    | else-count-gt0-via-then-count-gt0+else-is_ok w' ↦ rw w.self-is
        (rw w'.self-is (front_flushed _ _ _ _ _ c.write.ensures.bound c.write.ensures.bytes w'.flush.ensures.bytes))
    | else-count-gt0-via-else-count-gt0 w' ↦ rw w.self-is (rw w'.self-is (front_written _ _ _ _ c.write.ensures.bound c.write.ensures.bytes))
  ]
  | in_default w ↦ rw w.self-is (front_written _ _ _ _ c.write.ensures.bound c.write.ensures.bytes)
]
