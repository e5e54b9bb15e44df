-- The reading seat loads, and then splits off one that knows as much.
use Rattle.std.proofs.Common.{◌≡◌, ap, arith, rules}
use Rattle.atomic_table.specs.Seated.{TableId}
use Rattle.fuse_reply.proofs.Marking.{loads, shares}
use Rattle.fuse_reply.proofs.end_mark.EndMark.note.Goals as goal

pub load-found-requires : goal.load-found-requires
load-found-requires c =
    let same : c.self.inside.seat.table_id ≡ c.deref.result.now.shared.table_id = search rules in
    let one = ap (λ (z : TableId). z.words) same in (same, omega arith, loads _ _ _ c.self.invariant.1.1)

pub split_seat-seat-requires : goal.split_seat-seat-requires
split_seat-seat-requires c =
    let same : c.load-found.new.seat.table_id ≡ c.deref-2.result.now.shared.table_id = search rules in
    let one = ap (λ (z : TableId). z.words) same in
    let kept = ap (λ (z : TableId). z.words) c.load-found.ensures.0 in
    (same, omega arith, shares _ _ _ (ap (λ m. m.0) c.load-found.ensures.2.0))
