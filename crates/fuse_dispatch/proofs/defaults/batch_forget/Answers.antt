use Rattle.std.proofs.Common.{◌≡◌, ◌∙◌, ◌<◌, ℕ, length, arith, sym, ap, subst, refl, None, Some}
use Rattle.std.specs.Prelude.{option_map, slice_get}
use Rattle.std.proofs.lemmas.Option.{slice_get-get_or}
use denote.Param.Always.{mut_next}
use Rattle.fuse_request.specs.Forgets.{row_of, rows_of}
use Rattle.fuse_dispatch.proofs.Forgetting.{IsMarkAfter-row}
use Rattle.fuse_dispatch.proofs.defaults.batch_forget.Goals as goal
use Rattle.fuse_dispatch.proofs.defaults.batch_forget.Goals.{in-Some, in_default}

pub loop-place-preserved : goal.loop-place-preserved
loop-place-preserved g c = elim c.match-get.branch [
  | in-Some w ↦
      let ask = c.loop-place.forget in
      let left = w.forget-mark.new.self in
      let row = row_of w.in-Some.row in
      let found : slice_get (rows_of c.args.nodes) c.loop-place.place ≡ Some row =
      sym c.get.ensures ∙ ap (λ one. option_map row_of one) w.in-Some.is in
      let called : goal.F-step g ask (record { 0 = row.0 }) row.1 c.match-get.mark c.match-get.forget =
      subst (goal.F-step g ask (record { 0 = row.0 }) row.1 c.match-get.mark) (sym w.forget-is)
      (subst (λ (mark : ℕ). goal.F-step g ask (record { 0 = row.0 }) row.1 mark left) (sym w.mark-is)
      (subst (λ (ino : ℕ). goal.F-step g ask (record { 0 = ino }) row.1 w.forget-mark.result left) w.nodeid.ensures
      (subst (λ (nlookup : ℕ). goal.F-step g ask w.nodeid.result nlookup w.forget-mark.result left) w.nlookup.ensures w.forget-mark.ensures))) in (
        subst (goal.F-IsAlwaysCallable g) (sym w.forget-is)
            (mut_next g.F.FnMut _ _ _ _ _ w.forget-mark.ensures refl c.loop-place.invariant.0),
        λ mark rest. c.loop-place.invariant.1 mark (IsMarkAfter-row (λ f ino nlookup. goal.F-step g f (record { 0 = ino }) nlookup) ask c.match-get.forget
            (rows_of c.args.nodes) c.loop-place.place row c.loop-place.mark c.match-get.mark mark found called rest),
      )
  | in_default w ↦ absurd (
      let rows = rows_of c.args.nodes in
      let at = c.loop-place.place in
      let inside : at < length rows = omega (arith, c.loop-place-test.true, c.len-place-end.ensures) in
      let none : slice_get rows at ≡ None = sym c.get.ensures ∙ ap (λ one. option_map row_of one) w.in_default.is in
      let some = slice_get-get_or rows at (0, 0) inside in
      let no : ⊥ = cc in no)
]
