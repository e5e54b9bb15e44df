use Rattle.fuse_session.specs.HandshakeStep.{HandshakeOn}
use Rattle.fuse_session.proofs.steps.handshake.Given as goal

-- a handshake so far, after which the next message is awaited
abbrev pub invariant-loop : goal.invariant-loop
invariant-loop g l =
    HandshakeOn g.FS.Filesystem.promise.may_init l.page_size l.fn.filesystem l.filesystem l.fn.channel.progress l.channel.progress
