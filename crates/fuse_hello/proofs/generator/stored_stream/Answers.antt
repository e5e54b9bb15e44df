use Rattle.std.proofs.Common.{◌∙◌, ◌∷◌, ◌++◌, [], List, ℕ, ap, sym}
use Rattle.fuse_hello.proofs.Generating.{x-none, x-next, request-is, front, front-one_more}
use Rattle.fuse_hello.proofs.generator.stored_stream.Goals as goal

pub loop-place-init : goal.loop-place-init
loop-place-init c = record {
  state = x-none c.args.seed;
  stored = c.in_ok-push.ensures.items ∙ (ap (λ (bytes : List (List ℕ)). bytes ++ c.init_message.result ∷ []) c.in_ok-messages.ensures.items
      ∙ ap (λ (m : List ℕ). m ∷ []) c.init_message.ensures);
}

pub loop-place-preserved : goal.loop-place-preserved
loop-place-preserved c =
    let state = x-next c.args.seed c.loop-place.place c.loop-place.x c.next-x.result c.loop-place.invariant.state c.next-x.ensures in
    let request = request-is c.args.seed c.loop-place.place c.from.result c.next-x.result c.request.result state c.from.ensures c.request.ensures in
    record {
      state = state;
      stored = c.in_ok-push-2.ensures.items ∙ (ap (λ (held : List (List ℕ)). held ++ c.request.result ∷ []) c.loop-place.invariant.stored
          ∙ (ap (λ (last : List ℕ). front c.args.seed c.loop-place.place ++ last ∷ []) request ∙ sym (front-one_more c.args.seed c.loop-place.place)));
    }
