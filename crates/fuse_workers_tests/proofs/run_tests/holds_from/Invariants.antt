use Rattle.std.proofs.Common.{◌≡◌, length}
use Rattle.fuse_wire.specs.declared.consts.TheConstants.{BUFFER_SIZE}
use Rattle.fuse_workers_tests.proofs.run_tests.holds_from.Given as goal

-- the buffer keeps its length
abbrev pub invariant-loop-id : goal.invariant-loop-id
invariant-loop-id l = length l.buffer ≡ BUFFER_SIZE
