use Rattle.fuse_session.proofs.HandshakeSteps.{HandshakeOn-none, HandshakeOn-then, HandshakeRun-then}
use Rattle.fuse_session.proofs.steps.handshake.Goals as goal

pub loop-init : goal.loop-init
loop-init g c = HandshakeOn-none _ _

pub returns-in-Some-take_step : goal.returns-in-Some-take_step
returns-in-Some-take_step g c = HandshakeRun-then c.loop.invariant c.in-Some-take_step.ensures

pub loop-preserved : goal.loop-preserved
loop-preserved g c = HandshakeOn-then c.loop.invariant c.in-None-take_step.ensures
