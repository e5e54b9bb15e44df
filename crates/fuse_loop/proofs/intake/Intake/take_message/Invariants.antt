use Rattle.std.proofs.Common.{◌≡◌, [], length}
use Rattle.fuse_wire.specs.Source.{Takes}
use Rattle.fuse_wire.specs.declared.consts.TheConstants.{BUFFER_SIZE}
use Rattle.fuse_loop.proofs.intake.Intake.take_message.Given as goal

-- nothing was taken so far
abbrev pub invariant-loop : goal.invariant-loop
invariant-loop g l = record {
  nothing : Takes [] l.fn.self.source (g.S.Source.told l.self-inside.source);
  received : l.self-inside.received ≡ l.fn.self.received;
  buffer : length l.self-inside.buffer.items ≡ BUFFER_SIZE;
}
