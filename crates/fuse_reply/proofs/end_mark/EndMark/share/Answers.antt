-- The reading seat splits off two that know as much.
use Rattle.std.proofs.Common.{◌≡◌, ◌∙◌, ap, arith, rules}
use Rattle.atomic_table.specs.Seated.{TableId}
use Rattle.fuse_reply.proofs.Marking.{shares}
use Rattle.fuse_reply.proofs.end_mark.EndMark.share.Goals as goal

pub split_seat-seat-requires : goal.split_seat-seat-requires
split_seat-seat-requires c =
    let same : c.self.inside.seat.table_id ≡ c.deref.result.now.shared.table_id = search rules in
    let one = ap (λ (z : TableId). z.words) same in (same, omega arith, shares _ _ _ (ap (λ m. m.0) c.self.invariant.1.1))

pub split_seat-kept-requires : goal.split_seat-kept-requires
split_seat-kept-requires c =
    let same : c.split_seat-seat.new.seat.table_id ≡ c.deref-2.result.now.shared.table_id = search rules in
    let one = ap (λ (z : TableId). z.words) same in
    let kept = ap (λ (z : TableId). z.words) c.split_seat-seat.ensures.0 in
    (same, omega arith, shares _ _ _ (ap (λ m. m.0) c.split_seat-seat.ensures.2 ∙ ap (λ m. m.0) c.self.invariant.1.1))
