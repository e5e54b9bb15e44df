-- What the events that are left make of the state is what all of them make of the first one.
use Rattle.std.proofs.Common.{drop}
use Rattle.fuse_core.specs.declared.state.State.{State}
use Rattle.fuse_core.specs.Step.{Runs}
use Rattle.fuse_core.proofs.stepping.run.Given as goal

abbrev pub invariant-loop-event : goal.invariant-loop-event
invariant-loop-event l = record {
  on : (t : State) → Runs l.reached (drop l.event-index l.events) t → Runs l.fn.state l.events t;
  back : (t : State) → Runs l.fn.state l.events t → Runs l.reached (drop l.event-index l.events) t;
}
