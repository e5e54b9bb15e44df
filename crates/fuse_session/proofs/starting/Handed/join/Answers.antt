-- What came back is the end of the session that was handed over.
use Rattle.std.proofs.Common.{◌∙◌, subst, true}
use Rattle.fuse_line.specs.Tells.{IsSettled}
use Rattle.fuse_session.specs.Ran.{Ran}
use Rattle.fuse_session.proofs.Handing.{both_hands-joined, handed-found, none-left}
use Rattle.fuse_session.proofs.starting.Handed.join.Goals as goal

pub unreachable-requires : goal.unreachable-requires
unreachable-requires g c =
    let front = c.in-Some.ensures.front in
    none-left c.self.inside.session.value c.join-ended.ensures.session c.join.new.pass.hand c.in-Some.field-0 front.0
    (both_hands-joined c.self.inside.session.value c.join-ended.ensures.session _ _ c.self.inside.giver.pass c.join-ended.result.pass
    c.join.new.pass.hand c.join.ensures.hand c.self.invariant.1 c.join-ended.ensures.took) front.1

pub returns : goal.returns
returns g c =
    let ended = c.join-ended.result.ended in
    let same = handed-found c.self.inside.session.value c.join-ended.ensures.session c.join.new.pass.hand
    (both_hands-joined c.self.inside.session.value c.join-ended.ensures.session _ _ c.self.inside.giver.pass c.join-ended.result.pass
    c.join.new.pass.hand c.join.ensures.hand c.self.invariant.1 c.join-ended.ensures.took)
    (subst (λ (v : _). IsSettled (λ _. true) v) c.in-None.ensures.hand c.in-None.ensures.settled) in
    subst (λ (s : _). Ran g.FS.Filesystem.promise s ended.filesystem ended.outcome (g.S.Source.told ended.source)
    (g.K.Sink.told ended.sink) ended.transcript) (same ∙ c.self.view_is) c.join-ended.ensures.ran
