-- A session that is opened and run ends well where nothing is amiss.
use Rattle.std.proofs.Common.{ℕ, Option, inl, inr, sym, subst}
use Rattle.fuse_config.specs.declared.session_acl.SessionACL.{SessionACL}
use Rattle.fuse_session.specs.Accounted.{ManyThreads, NeverLater}
use Rattle.fuse_session.specs.Complete.{SessionWell}
use Rattle.fuse_session.specs.Headline.{Headline, LaterHeadline, OrderedHeadline}
use Rattle.fuse_session.specs.Session.{setup_for}
use Rattle.fuse_session.proofs.Completing.{HandshakeWell-session, Ok-from_exchange}
use Rattle.fuse_session.proofs.session.mount.Goals as goal

pub returns-in-Ok-clause-headline : goal.returns-in-Ok-clause-headline
returns-in-Ok-clause-headline g c never ok lossless =
    let promise = g.FS.Filesystem.promise in
    let before = g.S.Source.told c.args.source in
    let after = g.S.Source.told c.run.result.source in
    let sink = g.K.Sink.told c.args.sink in
    let sink' = g.K.Sink.told c.run.result.sink in
    let serves = c.in-Ok.ensures.opened.1 in
    subst (λ (acl : SessionACL). Headline promise c.args.page_size acl c.args.owner c.args.filesystem before after sink sink') serves.acl_is
    (subst (λ (owner : ℕ). Headline promise c.args.page_size c.in-Ok.session.terms.rule.acl owner c.args.filesystem before after sink sink') serves.owner_is
    (c.run.ensures.headline (subst (λ (threads : Option ℕ). NeverLater threads promise.defers)
    (sym serves.threads_is) never) c.args.page_size c.args.filesystem before sink c.in-Ok.ensures.opened.0 ok lossless))

pub returns-in-Ok-clause-in_order : goal.returns-in-Ok-clause-in_order
returns-in-Ok-clause-in_order g c one ok lossless =
    let promise = g.FS.Filesystem.promise in
    let before = g.S.Source.told c.args.source in
    let after = g.S.Source.told c.run.result.source in
    let sink = g.K.Sink.told c.args.sink in
    let sink' = g.K.Sink.told c.run.result.sink in
    let serves = c.in-Ok.ensures.opened.1 in
    subst (λ (acl : SessionACL). OrderedHeadline promise c.args.page_size acl c.args.owner c.args.filesystem before after sink sink') serves.acl_is
    (subst (λ (owner : ℕ). OrderedHeadline promise c.args.page_size c.in-Ok.session.terms.rule.acl owner c.args.filesystem before after sink sink') serves.owner_is
    (c.run.ensures.in_order (subst (λ (threads : Option ℕ). ¬ (ManyThreads threads)) (sym serves.threads_is) one)
    c.args.page_size c.args.filesystem before sink c.in-Ok.ensures.opened.0 ok lossless))

pub returns-in-Ok-clause-later : goal.returns-in-Ok-clause-later
returns-in-Ok-clause-later g c ok lossless =
    let promise = g.FS.Filesystem.promise in
    let before = g.S.Source.told c.args.source in
    let after = g.S.Source.told c.run.result.source in
    let sink = g.K.Sink.told c.args.sink in
    let sink' = g.K.Sink.told c.run.result.sink in
    let serves = c.in-Ok.ensures.opened.1 in
    subst (λ (acl : SessionACL). LaterHeadline promise c.args.page_size acl c.args.owner c.args.filesystem before after sink sink') serves.acl_is
    (subst (λ (owner : ℕ). LaterHeadline promise c.args.page_size c.in-Ok.session.terms.rule.acl owner c.args.filesystem before after sink sink') serves.owner_is
    (c.run.ensures.later c.args.page_size c.args.filesystem before sink c.in-Ok.ensures.opened.0 ok lossless))

pub returns-in-Ok-clause-recorded : goal.returns-in-Ok-clause-recorded
returns-in-Ok-clause-recorded g c never =
    c.run.ensures.recorded (subst (λ (threads : Option ℕ). NeverLater threads g.FS.Filesystem.promise.defers) (sym c.in-Ok.ensures.opened.1.threads_is) never)

pub returns-in-Ok-clause-complete : goal.returns-in-Ok-clause-complete
returns-in-Ok-clause-complete g c options well =
    let promise = g.FS.Filesystem.promise in
    let before = g.S.Source.told c.args.source in
    let mounted = c.run.ensures.session c.args.page_size c.args.filesystem before (g.K.Sink.told c.args.sink) c.in-Ok.ensures.opened.0 in
    inl (Ok-from_exchange {setup = setup_for promise c.args.page_size c.in-Ok.session} c.run.result.outcome mounted.exchange
    (subst (λ (threads : Option ℕ). SessionWell promise.may_init threads c.args.filesystem before (g.S.Source.told c.run.result.source))
    (sym c.in-Ok.ensures.opened.1.threads_is) well))

pub returns-in-Err-clause-complete : goal.returns-in-Err-clause-complete
returns-in-Err-clause-complete g c options well = inr (c.in-Err.ensures.complete options (HandshakeWell-session well))
