-- A session that is not opened is closed.
use Rattle.std.proofs.Common.{sym, subst}
use Rattle.fuse_session.specs.SessionEnd.{Outcome}
use Rattle.fuse_session.specs.Session.{OpensNone}
use Rattle.fuse_session.proofs.SessionParts.{Closed-unopened}
use Rattle.fuse_session.proofs.session.open.Goals as goal

pub returns-in-Err-clause-closed : goal.returns-in-Err-clause-closed
returns-in-Err-clause-closed g c =
    let rule = c.args.rule in (
      subst (λ (o : Outcome). OpensNone o) (sym c.unopened.ensures.outcome) c.in-Err.ensures.0,
      Closed-unopened g.FS.Filesystem.promise _ _ _ _ _ _ _ _ _ _ _ _ _ _ _ _ (c.in-Err.ensures.1 c.args.n_threads rule.acl rule.owner)
          c.open-channel.ensures.channel c.unopened.ensures.outcome c.unopened.ensures.channel c.unopened.ensures.destroyed,
    )
