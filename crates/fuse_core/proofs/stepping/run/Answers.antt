use Rattle.std.proofs.Common.{subst}
use Rattle.fuse_core.specs.declared.state.State.{State}
use Rattle.fuse_core.specs.Owing.{EachOwed, passes}
use Rattle.fuse_core.specs.Step.{MayHappen, Runs}
use Rattle.fuse_core.proofs.Balancing.{Runs-balanced}
use Rattle.fuse_core.proofs.Determined.{Runs-before, Runs-behind, Runs-end, Runs-none}
use Rattle.fuse_core.proofs.Outgoing.{sends_owed}
use Rattle.fuse_core.proofs.stepping.run.Goals as goal

pub returns-then-not-branch-clause-leads : goal.returns-then-not-branch-clause-leads
returns-then-not-branch-clause-leads c t runs =
    let events = c.args.events.now in
    let place = c.loop-event.event-index in
    let event = c.event-item.result in
    let reached = c.loop-event.reached in
    let none = subst (MayHappen reached event c.apply.new.state) c.if-not-branch.true c.in_ok-apply.ensures in
    Runs-none events place event c.loop-event-test.true c.event-item.is reached t none (c.loop-event.invariant.back t runs)

pub loop-event-preserved : goal.loop-event-preserved
loop-event-preserved c =
    let events = c.args.events.now in
    let place = c.loop-event.event-index in
    let event = c.event-item.result in
    let reached = c.loop-event.reached in
    let next = c.apply.new.state in
    let happens = subst (MayHappen reached event next) c.if-not-branch.false c.in_ok-apply.ensures in
    record {
      on = λ t runs. c.loop-event.invariant.on t
          (Runs-before events place event c.loop-event-test.true c.event-item.is reached next t happens runs);
      back = λ t runs. Runs-behind events place event c.loop-event-test.true c.event-item.is reached next t happens
          (c.loop-event.invariant.back t runs);
    }

pub returns-clause-balanced : goal.returns-clause-balanced
returns-clause-balanced c balanced =
    let events = c.args.events.now in
    let reached = c.loop-event.reached in
    let runs = c.loop-event.invariant.on reached (Runs-end events c.loop-event.event-index reached c.loop-event-test.false) in
    Runs-balanced events c.args.state.now reached runs balanced

pub returns-clause-owed : goal.returns-clause-owed
returns-clause-owed c test workers first each =
    let events = c.args.events.now in
    let reached = c.loop-event.reached in
    let runs = c.loop-event.invariant.on reached (Runs-end events c.loop-event.event-index reached c.loop-event-test.false) in
    sends_owed (passes test) workers events reached (subst (λ (s : State). EachOwed (passes test) s events) first each)
    (subst (λ (s : State). Runs s events reached) first runs)
