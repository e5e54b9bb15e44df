use Rattle.fuse_core.proofs.Outgoing.{sends_owed}
use Rattle.fuse_workers.proofs.laws.what_is_sent_is_owed.Goals as goal

pub returns : goal.returns
returns g c work = sends_owed (g.W.Work.owed work)
