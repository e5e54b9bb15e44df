-- The Seal stores.
use Rattle.std.proofs.Common.{◌≡◌, ap, arith, rules}
use Rattle.atomic_table.specs.Seated.{TableId}
use Rattle.fuse_reply.proofs.Marking.{stores}
use Rattle.fuse_reply.proofs.end_mark.EndMark.set.Goals as goal

pub store-requires : goal.store-requires
store-requires c =
    let mine : c.self.inside.seat.table_id ≡ c.deref.result.now.shared.table_id = search rules in
    let one = ap (λ (z : TableId). z.words) mine in (search rules, omega arith, stores _ _ _ _ c.seal.invariant)
