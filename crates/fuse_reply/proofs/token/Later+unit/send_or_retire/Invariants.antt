use Rattle.std.specs.Prelude.{◌≡◌}
use Rattle.fuse_reply.specs.Late.{IsFrameFor}
use Rattle.fuse_reply.proofs.token.Later+unit.send_or_retire.Given as goal

-- the frame is the one of the token, which looks at the same mark
abbrev pub invariant-loop : goal.invariant-loop
invariant-loop g l = IsFrameFor l.left.id.0 l.frame × (l.left.door.mark.name ≡ l.fn.self.door.mark.name)
