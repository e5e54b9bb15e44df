-- A send that is listed fails as the list says.
use Rattle.std.proofs.Common.{◌≡◌, Some, arith}
use Rattle.fuse_wire.specs.Faults.{counted}
use Rattle.fuse_wire.specs.MemorySink.{FramesHeld, next_answer, reached_once}
use Rattle.fuse_wire.specs.contracts.memory_sink.MemorySink.{the_view}
use Rattle.fuse_wire.proofs.Listed.{Sends-listed, SendsMemory-listed}
use Rattle.fuse_wire.proofs.memory_sink.MemorySinkSink.send.Goals as goal

abbrev before : goal.After-self-in-Some-2-1 → FramesHeld
before c = the_view c.self.inside

abbrev after : goal.After-self-in-Some-2-1 → FramesHeld
after c = record {
  frames = (before c).frames;
  notes = (before c).notes;
  calls = c.saturating_add-self-inside.result;
  listed = (before c).listed;
  reached = c.saturating_add-self-inside-in-Some.result;
  absent = c.absent_after-self-inside.result;
  starved = (before c).starved;
}

is_listed : (c : goal.After-self-in-Some-2-1) → next_answer (before c) ≡ Some c.in-Some.answer
is_listed c =
    let calls : c.saturating_add-self-inside.result ≡ counted c.self.inside.calls 1 = omega arith in
    cc

-- only the counts rise
once : (c : goal.After-self-in-Some-2-1) → after c ≡ reached_once (before c) c.in-Some.answer
once c =
    let calls : c.saturating_add-self-inside.result ≡ counted c.self.inside.calls 1 = omega arith in
    let reached : c.saturating_add-self-inside-in-Some.result ≡ counted c.self.inside.reached 1 = omega arith in
    cc

pub returns-in-Some-clause-sends : goal.returns-in-Some-clause-sends
returns-in-Some-clause-sends c = rw (← c.self.view_is) (Sends-listed c.in-Some.answer _ (before c) (after c) c.self.invariant (is_listed c) (once c))

pub returns-in-Some-clause-exactly : goal.returns-in-Some-clause-exactly
returns-in-Some-clause-exactly c = rw (← c.self.view_is) (SendsMemory-listed c.in-Some.answer _ (before c) (after c) c.self.invariant (is_listed c) (once c))
