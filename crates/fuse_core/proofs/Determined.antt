-- That an event makes one state of a state, and what that says of several events.
use Rattle.std.proofs.Common.{◌≡◌, ◌<◌, ◌+◌, ◌≤◌, ℕ, Bool, true, false, List, [], ◌∷◌, ◌++◌, drop, get_or, length, sym, ◌∙◌, ap, subst, refl}
use Rattle.std.proofs.lemmas.List.{drop_all, drop_more}
use Rattle.std.proofs.lemmas.Option.{same_Some}
use Rattle.fuse_wire.specs.declared.newtypes.RequestId.{RequestId}
use Rattle.fuse_reply.specs.declared.out.Out.{Out}
use Rattle.fuse_reply.specs.declared.out.Out.TheVariants.{Deferred}
use Rattle.fuse_reply.specs.declared.parcel.Parcel.TheVariants.{Prompt}
use Rattle.fuse_core.specs.declared.event.Event.{Event}
use Rattle.fuse_core.specs.declared.event.Event.TheVariants.{Receive, Take, Answer, Defer, Push, Send, Own, Late, Notify}
use Rattle.fuse_core.specs.declared.state.WorkerHand.TheVariants.{Empty, Asked, Answered}
use Rattle.fuse_core.specs.declared.state.Job.{Job}
use Rattle.fuse_core.specs.declared.state.State.{State}
use Rattle.fuse_core.specs.Step.{HandAnswers, Happens, MayHappen, Runs, with_hand, went}

same_first : {X : Type 0} (xs us vs : List X) (x y : X) → xs ≡ x ∷ us → xs ≡ y ∷ vs → x ≡ y
same_first xs us vs x y a b = let both : x ∷ us ≡ y ∷ vs = sym a ∙ b in cc

same_rest : {X : Type 0} (xs us vs : List X) (x y : X) → xs ≡ x ∷ us → xs ≡ y ∷ vs → us ≡ vs
same_rest xs us vs x y a b = let both : x ∷ us ≡ y ∷ vs = sym a ∙ b in cc

same_asked : (j k : Job) → Asked j ≡ Asked k → j ≡ k
same_asked j k same = cc

same_answered : (seq n : ℕ) (out o : Out) → Answered seq out ≡ Answered n o → (seq ≡ n) × (out ≡ o)
same_answered seq n out o same = (cc, cc)

same_answer : (s : State) (worker : ℕ) (out : Out) (t u : State) → HandAnswers s worker out t → HandAnswers s worker out u → t ≡ u
same_answer s worker out t u h k =
    let asked : h.0 ≡ k.0 = same_asked h.0 k.0 (same_Some (Asked h.0) (Asked k.0) (sym h.1 ∙ k.1)) in
    h.3 ∙ ap (λ (j : Job). with_hand s worker (Answered j.seq out)) asked ∙ sym k.3

pub Happens-one : (s : State) (event : Event) (t u : State) → Happens s event t → Happens s event u → t ≡ u
Happens-one s (Receive m) t u h k = h.1 ∙ sym k.1
Happens-one s (Take worker) t u h k =
    let first : h.0 ≡ k.0 = same_first s.jobs h.1 k.1 h.0 k.0 h.2 k.2 in
    let rest : h.1 ≡ k.1 = same_rest s.jobs h.1 k.1 h.0 k.0 h.2 k.2 in
    h.4 ∙ (λ i. with_hand (record s { jobs = rest i }) worker (Asked (first i))) ∙ sym k.4
Happens-one s (Answer worker out) t u h k = same_answer s worker out t u h k
Happens-one s (Defer worker seq id) t u h k = same_answer s worker (Deferred seq id) t u h k
Happens-one s (Push worker) t u h k =
    let same = same_answered h.0 k.0 h.1 k.1 (same_Some (Answered h.0 h.1) (Answered k.0 k.1) (sym h.2 ∙ k.2)) in
    h.4 ∙ (λ i. with_hand (record s { line = s.line ++ Prompt (same.0 i) (same.1 i) ∷ [] }) worker Empty) ∙ sym k.4
Happens-one s Send t u h k =
    let first : h.0 ≡ k.0 = same_first s.line h.1 k.1 h.0 k.0 h.2 k.2 in
    let rest : h.1 ≡ k.1 = same_rest s.line h.1 k.1 h.0 k.0 h.2 k.2 in
    h.3 ∙ (λ i. went (first i) (record s { line = rest i })) ∙ sym k.3
Happens-one s (Own m out) t u h k = h.2 ∙ sym k.2
Happens-one s (Late late) t u h k = h.1 ∙ sym k.1
Happens-one s (Notify f) t u h k = h.1 ∙ sym k.1

-- a worker that leaves its answer for later has answered by a mark
pub MayHappen-deferred : (s : State) (worker seq : ℕ) (id : RequestId) (t : State) (happened : Bool)
    → MayHappen s (Answer worker (Deferred seq id)) t happened → MayHappen s (Defer worker seq id) t happened
MayHappen-deferred s worker seq id t true h = h
MayHappen-deferred s worker seq id t false h = h

-- what comes after the first of several events
pub Runs-after : (s next t : State) (event : Event) (events : List Event) → Happens s event next → Runs s (event ∷ events) t → Runs next events t
Runs-after s next t event events h r = subst (λ (u : State). Runs u events t) (Happens-one s event r.0 next r.1 h) r.2

-- the events from a place on, where this one stands there
from_place : (events : List Event) (place : ℕ) (event : Event) → place < length events → event ≡ get_or events place event
    → drop place events ≡ event ∷ drop (place + 1) events
from_place events place event within at =
    drop_more events place event within ∙ ap (λ (e : Event). e ∷ drop (place + 1) events) (sym at)

module _ (events : List Event) (place : ℕ) (event : Event) (within : place < length events) (at : event ≡ get_or events place event) (s : State) where
  pub Runs-before : (next t : State) → Happens s event next → Runs next (drop (place + 1) events) t → Runs s (drop place events) t
  Runs-before next t h r = subst (λ (es : List Event). Runs s es t) (sym (from_place events place event within at)) (next, h, r)

  pub Runs-behind : (next t : State) → Happens s event next → Runs s (drop place events) t → Runs next (drop (place + 1) events) t
  Runs-behind next t h r =
      Runs-after s next t event (drop (place + 1) events) h (subst (λ (es : List Event). Runs s es t) (from_place events place event within at) r)

  -- nothing comes of events of which the first cannot happen
  pub Runs-none : (t : State) → ((next : State) → ¬ (Happens s event next)) → ¬ (Runs s (drop place events) t)
  Runs-none t none r =
      let first = subst (λ (es : List Event). Runs s es t) (from_place events place event within at) r in
      none first.0 first.1

-- where no event is left the state stays
pub Runs-end : (events : List Event) (place : ℕ) (s : State) → length events ≤ place → Runs s (drop place events) s
Runs-end events place s past = subst (λ (es : List Event). Runs s es s) (sym (drop_all place events past)) refl
