use Rattle.fuse_workers.specs.Promises.{lines_of}
use Rattle.fuse_workers.proofs.Conducting.{IsDrained-alone}
use Rattle.fuse_workers.proofs.workers.ended.Goals as goal

pub returns-clause-drained : goal.returns-clause-drained
returns-clause-drained g c =
    IsDrained-alone (lines_of c.args.parts.ending c.args.parts.caller) _ _ c.requires.jobs c.requires.frames
