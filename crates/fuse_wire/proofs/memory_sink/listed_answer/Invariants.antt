-- The answer is among the faults that are left.
use Rattle.std.proofs.Common.{◌≡◌, drop}
use Rattle.fuse_wire.specs.MemorySink.{answer_at}
use Rattle.fuse_wire.proofs.memory_sink.listed_answer.Given as goal

abbrev pub invariant-loop-fault : goal.invariant-loop-fault
invariant-loop-fault l = answer_at (drop l.fault-index l.fn.faults) l.fn.number ≡ answer_at l.fn.faults l.fn.number
