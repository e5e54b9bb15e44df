use Rattle.std.proofs.Common.{◌≡◌, sym, ◌∙◌, subst}
use Rattle.fuse_core.specs.declared.state.State.{State}
use Rattle.fuse_core.specs.Balanced.{Balanced}
use Rattle.fuse_core.specs.Step.{empty}
use Rattle.fuse_core.proofs.Balancing.{empty-balanced}
use Rattle.fuse_core.proofs.state.State.new.Goals as goal

pub returns-clause-balanced : goal.returns-clause-balanced
returns-clause-balanced c =
    let made : State = record {
      received = c.from_vec.result;
      jobs = c.from_vec-2.result;
      hands = c.in_ok-empty_hands.field-0;
      line = c.from_vec-3.result;
      sent = c.from_vec-4.result;
      marks = c.from_vec-5.result;
      held = c.from_vec-6.result;
      late = c.from_vec-7.result;
    } in
    let is : made ≡ empty c.args.workers = λ i. record {
      received = (c.from_vec.ensures ∙ c.new.ensures.items) i;
      jobs = (c.from_vec-2.ensures ∙ c.new-2.ensures.items) i;
      hands = c.in_ok-empty_hands.ensures i;
      line = (c.from_vec-3.ensures ∙ c.new-3.ensures.items) i;
      sent = (c.from_vec-4.ensures ∙ c.new-4.ensures.items) i;
      marks = (c.from_vec-5.ensures ∙ c.new-5.ensures.items) i;
      held = (c.from_vec-6.ensures ∙ c.new-6.ensures.items) i;
      late = (c.from_vec-7.ensures ∙ c.new-7.ensures.items) i;
    } in
    subst Balanced (sym is) (empty-balanced c.args.workers)
