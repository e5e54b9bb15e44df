use Rattle.std.proofs.Common.{◌≡◌, ◌-◌, ◌≤◌, take, drop, length, ap, ◌∙◌, arith}
use Rattle.std.proofs.lemmas.List.{length-take}
use Rattle.fuse_wire.proofs.BytesLeft.{TakesBytes-drop, take-part}
use Rattle.fuse_wire.proofs.memory_bytes.MemoryBytesByteSource.read.Goals as goal

pub returns-clause-reads : goal.returns-clause-reads
returns-clause-reads c =
    let r = c.put_front-taken.result in
    let next = c.self.inside.next in
    let most = c.min-most.result in
    let bytes = c.deref-2.result.now in
    let rest = take (length bytes - next) (drop next bytes) in
    let within : r ≤ most = omega (arith, length-take most rest, c.put_front-taken.ensures.count) in
    let front : take r c.put_front-taken.new.piece ≡ take r (drop next c.self.inside.bytes.items) =
    c.put_front-taken.ensures.front ∙ take-part r most next bytes within ∙ ap (λ held. take r (drop next held)) c.deref-2.ensures.value in (
      omega arith,
      omega (arith, c.put_front-taken.ensures.count),
      rw (← c.self.view_is) (TakesBytes-drop c.self.inside.bytes.items (take r c.put_front-taken.new.piece) next r c.self.inside.reached front),
    )
