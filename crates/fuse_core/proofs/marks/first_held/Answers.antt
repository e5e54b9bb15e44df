use Rattle.std.proofs.Common.{◌≡◌, ◌<◌, ◌≤◌, ◌∙◌, false, get_or, length, true, ap, arith, refl, sym, ℕ}
use Rattle.std.proofs.lemmas.Option.{slice_get_read}
use Rattle.fuse_core.specs.Marks.{late_tag}
use Rattle.fuse_core.specs.AreMatched.{Tag, same}
use Rattle.fuse_core.proofs.LateFrames.{let_go-end, let_go-found, let_go-next, still_held-end, still_held-found, still_held-next}
use Rattle.fuse_core.proofs.marks.first_held.Goals as goal

pub returns-then-is_same-clause-go : goal.returns-then-is_same-clause-go
returns-then-is_same-clause-go c =
    let held = c.args.held.now in
    let place = c.loop-late.place in
    let x = c.late-item.result in
    let within : place < length held = omega (arith, c.loop-late.invariant.0, c.loop-late-test.true) in
    let at : x ≡ get_or held place x = c.late-item.is ∙ ap (λ (i : ℕ). get_or held i x) (sym c.loop-late.invariant.0) in
    let is : same (late_tag x) c.args.tag ≡ true =
    ap (λ (t : Tag). same t c.args.tag) (sym c.tag_of_late.ensures) ∙ sym c.is_same.ensures ∙ c.if-is_same.true in
    (x, slice_get_read held (length held) place x refl within at, c.loop-late.invariant.1 ∙ let_go-found c.args.tag held place x within at is)

pub returns-then-is_same-clause-stay : goal.returns-then-is_same-clause-stay
returns-then-is_same-clause-stay c =
    let held = c.args.held.now in
    let place = c.loop-late.place in
    let x = c.late-item.result in
    let within : place < length held = omega (arith, c.loop-late.invariant.0, c.loop-late-test.true) in
    let at : x ≡ get_or held place x = c.late-item.is ∙ ap (λ (i : ℕ). get_or held i x) (sym c.loop-late.invariant.0) in
    let is : same (late_tag x) c.args.tag ≡ true =
    ap (λ (t : Tag). same t c.args.tag) (sym c.tag_of_late.ensures) ∙ sym c.is_same.ensures ∙ c.if-is_same.true in
    (within, sym c.loop-late.invariant.2 ∙ still_held-found c.args.tag held place x within at is)

pub loop-late-preserved : goal.loop-late-preserved
loop-late-preserved c =
    let held = c.args.held.now in
    let place = c.loop-late.place in
    let x = c.late-item.result in
    let within : place < length held = omega (arith, c.loop-late.invariant.0, c.loop-late-test.true) in
    let at : x ≡ get_or held place x = c.late-item.is ∙ ap (λ (i : ℕ). get_or held i x) (sym c.loop-late.invariant.0) in
    let other : same (late_tag x) c.args.tag ≡ false =
    ap (λ (t : Tag). same t c.args.tag) (sym c.tag_of_late.ensures) ∙ sym c.is_same.ensures ∙ c.if-is_same.false in (
      omega (arith, c.loop-late.invariant.0),
      c.loop-late.invariant.1 ∙ let_go-next c.args.tag held place x within at other,
      sym (still_held-next c.args.tag held place x within at other) ∙ c.loop-late.invariant.2,
    )

pub returns-clause-go : goal.returns-clause-go
returns-clause-go c =
    let past : length c.args.held.now ≤ c.loop-late.place = omega (arith, c.loop-late.invariant.0, c.loop-late-test.false) in
    c.loop-late.invariant.1 ∙ let_go-end c.args.tag c.args.held.now c.loop-late.place past

pub returns-clause-stay : goal.returns-clause-stay
returns-clause-stay c =
    let past : length c.args.held.now ≤ c.loop-late.place = omega (arith, c.loop-late.invariant.0, c.loop-late-test.false) in
    sym c.loop-late.invariant.2 ∙ still_held-end c.args.tag c.args.held.now c.loop-late.place past
