-- A run, from what it handed back.
use Rattle.std.proofs.Common.{ap, refl, sym}
use Rattle.fuse_session.proofs.Serving.{Ran-ends}
use Rattle.fuse_session.proofs.runnable.Runnable.run.Goals as goal

pub returns : goal.returns
returns g c =
    Ran-ends g.FS.Filesystem.promise c.args.self _ _ _ _ _ _ _ _ _ _ _ _ _ (sym c.self.view_is) refl c.serve-outcome.ensures.ends
    c.destroyed.ensures.told (ap g.S.Source.told c.destroyed.ensures.handed_back.0, ap g.K.Sink.told c.destroyed.ensures.handed_back.1)
    c.destroyed.ensures.destroyed c.serve-outcome.ensures.recorded
