-- The session that came by the line is the one that was run.
use Rattle.std.proofs.Common.{subst}
use Rattle.fuse_session.specs.Ran.{Ran}
use Rattle.fuse_session.proofs.starting.serve_taken.Goals as goal

pub returns : goal.returns
returns g c = record {
  session = c.take-carried.result.runnable;
  took = c.take-carried.ensures;
  ran = subst (λ (s : _). Ran g.FS.Filesystem.promise s c.run-ended.result.filesystem c.run-ended.result.outcome (g.S.Source.told c.run-ended.result.source)
      (g.K.Sink.told c.run-ended.result.sink) c.run-ended.result.transcript) c.into_runnable.ensures c.run-ended.ensures;
}
