-- A handshake that is not accepted ends the session.
use Rattle.std.proofs.Common.{Err, sym, subst}
use Rattle.fuse_session.specs.Exchange.{Unopened, setup_of}
use Rattle.fuse_session.specs.Session.{OpensNone}
use Rattle.fuse_session.specs.declared.error.SessionError.{SessionError}
use Rattle.fuse_session.proofs.Exchanging.{Unopened-failed, Unopened-gone, Unopened-refused}
use Rattle.fuse_session.proofs.SessionParts.{opens_none-refused}
use Rattle.fuse_session.proofs.session.shake.Goals as goal

pub returns-in-Gone : goal.returns-in-Gone
returns-in-Gone g c =
    (tt, λ threads acl owner. Unopened-gone {setup = setup_of g.FS.Filesystem.promise c.args.page_size threads acl owner} c.in-Gone.ensures)

pub returns-in-Refused : goal.returns-in-Refused
returns-in-Refused g c = (
  subst (λ (e : SessionError). OpensNone (Err e)) (sym c.of_handshake.ensures) (opens_none-refused c.in-Refused.error),
  λ threads acl owner.
      let s = setup_of g.FS.Filesystem.promise c.args.page_size threads acl owner in
      subst (λ (e : SessionError). Unopened s c.args.filesystem.now c.handshake.new.filesystem (Err e) c.args.channel.now.progress
      c.handshake.new.channel.progress) (sym c.of_handshake.ensures) (Unopened-refused {setup = s} c.in-Refused.error c.in-Refused.ensures),
)

pub returns-in-Failed : goal.returns-in-Failed
returns-in-Failed g c =
    (tt, λ threads acl owner. Unopened-failed {setup = setup_of g.FS.Filesystem.promise c.args.page_size threads acl owner} c.in-Failed.ensures)
