use Rattle.std.proofs.Common.{◌≡◌, ◌<◌, ◌+◌, ℕ, List, ◌∷◌, length, get_or, drop, ap, sym, ◌∙◌, arith}
use Rattle.std.proofs.lemmas.List.{drop_more}
use Rattle.fuse_hello.proofs.Giving.{TakesMessage-stored}
use Rattle.fuse_hello.proofs.stored_messages.StoredMessagesSource.receive.Goals as goal

pub returns : goal.returns
returns c =
    let messages = c.self.inside.messages.items in
    let next = c.self.inside.next in
    let m = c.in-Some.message.now in
    let held = c.deref.ensures.value in
    let within : next < length messages = omega (arith, c.in-Some.ensures.lookup.3.0, ap length held) in
    let here : get_or messages next m ≡ m = sym (c.in-Some.ensures.lookup.1 ∙ ap (λ (ms : List (List ℕ)). get_or ms next m) held) in
    let left : drop next messages ≡ m ∷ drop (next + 1) messages =
    drop_more messages next m within ∙ ap (λ at. at ∷ drop (next + 1) messages) here in
    let before : c.args.self.now ≡ m ∷ drop (next + 1) messages = sym c.self.view_is ∙ left in
    record {
      received = rw before (TakesMessage-stored m (drop (next + 1) messages) c.put.result c.put.new.buffer c.put.ensures.whole c.put.ensures.short
          c.put.ensures.front);
      first = (m, before);
    }
