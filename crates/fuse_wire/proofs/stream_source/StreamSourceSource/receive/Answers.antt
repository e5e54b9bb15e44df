use Rattle.std.proofs.Common.{◌≡◌, ◌-◌, ◌++◌, length, take, drop, min, max, sym, ap, ◌∙◌, arith}
use Rattle.std.proofs.lemmas.List.{length-take, length-drop, length-append, take-append-le}
use Rattle.fuse_wire.specs.Numbers.{number}
use Rattle.fuse_wire.specs.declared.consts.TheConstants.{BUFFER_SIZE}
use Rattle.fuse_wire.proofs.Filling.{Gone-from_filled, TakesMessage-short, TakesMessage-long}
use Rattle.fuse_wire.proofs.stream_source.StreamSourceSource.receive.Goals as goal

pub slice_bounds-fill-end-2 : goal.slice_bounds-fill-end-2
slice_bounds-fill-end-2 g c = omega (arith, length-take 40 c.args.buffer.now, c.requires)

pub returns-then-count-eq0-clause-received : goal.returns-then-count-eq0-clause-received
returns-then-count-eq0-clause-received g c =
    Gone-from_filled _ _ _ _ _ c.in-Some.ensures (omega arith) (omega (arith, length-take 40 c.args.buffer.now, c.requires))

pub returns-then-count-lt-REQUEST_HEADER_SIZE-clause-received : goal.returns-then-count-lt-REQUEST_HEADER_SIZE-clause-received
returns-then-count-lt-REQUEST_HEADER_SIZE-clause-received g c =
    let header : length (take 40 c.args.buffer.now) ≡ 40 = omega (arith, length-take 40 c.args.buffer.now, c.requires) in
    TakesMessage-short _ _ _ _ _ (drop 40 c.args.buffer.now) c.in-Some.ensures (omega arith) (omega arith) header (omega arith)

pub returns-in-Some-fill-clause-received : goal.returns-in-Some-fill-clause-received
returns-in-Some-fill-clause-received g c =
    let buffer = c.args.buffer.now in
    let first = c.fill.new.piece in
    let held = first ++ drop 40 buffer in
    let header : length (take 40 buffer) ≡ 40 = omega (arith, length-take 40 buffer, c.requires) in
    let long : length first ≡ 40 = omega arith in
    let count : c.in-Some.count ≡ 40 = omega (arith, c.in-Some.ensures.fits) in
    let front : take 40 held ≡ take c.in-Some.count first =
    take-append-le 40 first (drop 40 buffer) (omega arith) ∙ ap (λ n. take n first) (sym count) in
    let whole : length held ≡ BUFFER_SIZE = omega (arith, c.requires, length-append first (drop 40 buffer), length-drop 40 buffer) in
    let end = c.clamp-end.result in
    let ends : end ≡ min BUFFER_SIZE (max 40 (number held 0 4)) = omega (arith, c.clamp-end.ensures, c.u32_at.ensures) in
    let sized : length (take (end - 40) (drop 40 held)) ≡ end - 40 =
    omega (arith, length-take (end - 40) (drop 40 held), length-drop 40 held) in
    TakesMessage-long c.in-Some-fill.more end _ _ _ _ held c.fill-2.new.piece
    (rw front c.in-Some.ensures.taken) c.in-Some-fill.ensures whole ends sized (omega arith)
