use Rattle.std.proofs.Common.{◌≡◌, ◌<◌, ◌+◌, List, ◌∷◌, length, get_or, drop, ap, sym, ◌∙◌, arith}
use Rattle.std.proofs.lemmas.List.{drop_more}
use Rattle.fuse_wire.specs.declared.memory_source.Turn.{Turn}
use Rattle.fuse_wire.specs.declared.memory_source.Turn.TheVariants.{Message}
use Rattle.fuse_wire.proofs.Turns.{TakesMessage-turn}
use Rattle.fuse_wire.proofs.memory_source.MemorySourceSource.receive.Goals as goal

pub returns-in-Message-clause-received : goal.returns-in-Message-clause-received
returns-in-Message-clause-received c =
    let turns = c.self.inside.turns.items in
    let next = c.self.inside.next in
    let turn = c.in-Some.turn.now in
    let n = c.put_front.result in
    let held = c.deref.ensures.value in
    let within : next < length turns = omega (arith, c.in-Some.ensures.lookup.3.0, ap length held) in
    let here : get_or turns next turn ≡ turn = sym (c.in-Some.ensures.lookup.1 ∙ ap (λ (xs : List Turn). get_or xs next turn) held) in
    let bytes = c.as_slice.result.now in
    let message : turn ≡ Message bytes = cc in
    let first : drop next turns ≡ Message bytes ∷ drop (next + 1) turns =
    drop_more turns next turn within ∙ ap (λ at. at ∷ drop (next + 1) turns) (here ∙ message) in
    let before : c.args.self.now ≡ record { left = Message bytes ∷ drop (next + 1) turns; failed = c.self.inside.failed } =
    sym c.self.view_is ∙ ap (λ (left : List Turn). record { left = left; failed = c.self.inside.failed }) first in
    rw before (TakesMessage-turn bytes (drop (next + 1) turns) c.self.inside.failed n (length c.args.buffer.now)
    c.put_front.new.piece c.requires c.put_front.ensures.count c.put_front.ensures.front)
