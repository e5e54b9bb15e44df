use Rattle.fuse_core.proofs.Determined.{MayHappen-deferred}
use Rattle.fuse_core.proofs.stepping.defer.Goals as goal

pub returns : goal.returns
returns c = MayHappen-deferred c.args.state.now c.args.worker c.args.seq c.args.id c.answer.new.state c.answer.result c.answer.ensures
