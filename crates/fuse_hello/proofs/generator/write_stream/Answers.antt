-- INIT, one request after the other, and DESTROY.
use Rattle.std.proofs.Common.{◌≡◌, ◌∙◌, List, ℕ, subst, sym, arith}
use Rattle.std.specs.List.{concat}
use Rattle.fuse_wire.specs.ByteSink.{PutsBytes}
use Rattle.fuse_hello.proofs.Generating.{x-none, x-next, request-is, front, front-none, request-written, request-lost, stream-ends}
use Rattle.fuse_hello.proofs.generator.write_stream.Goals as goal

pub loop-place-init : goal.loop-place-init
loop-place-init g c = record {
  state = x-none c.args.seed;
  put = subst (λ (bytes : List ℕ). PutsBytes bytes (g.O.ByteSink.told c.args.output.now) (g.O.ByteSink.told c.write.new.output))
      (c.init_message.ensures ∙ sym (front-none c.args.seed)) c.if-not-write.ensures;
}

pub returns-then-not-write-2 : goal.returns-then-not-write-2
returns-then-not-write-2 g c =
    let state = x-next c.args.seed c.loop-place.place c.loop-place.x c.next-x.result c.loop-place.invariant.state c.next-x.ensures in
    request-lost c.args.seed c.args.count c.loop-place.place c.request.result (g.O.ByteSink.told c.args.output.now)
    (g.O.ByteSink.told c.loop-place.output) (g.O.ByteSink.told c.write-in-loop-place.new.output) c.loop-place-test.true c.loop-place.invariant.put
    (request-is c.args.seed c.loop-place.place c.from.result c.next-x.result c.request.result state c.from.ensures c.request.ensures)
    c.if-not-write-2.ensures

pub loop-place-preserved : goal.loop-place-preserved
loop-place-preserved g c =
    let state = x-next c.args.seed c.loop-place.place c.loop-place.x c.next-x.result c.loop-place.invariant.state c.next-x.ensures in
    record {
      state = state;
      put = request-written c.args.seed c.loop-place.place c.request.result (g.O.ByteSink.told c.args.output.now)
          (g.O.ByteSink.told c.loop-place.output) (g.O.ByteSink.told c.write-in-loop-place.new.output) c.loop-place.invariant.put
          (request-is c.args.seed c.loop-place.place c.from.result c.next-x.result c.request.result state c.from.ensures c.request.ensures)
          c.if-not-write-2.ensures;
    }

pub returns : goal.returns
returns g c =
    let all : c.loop-place.place ≡ c.args.count = omega (arith, c.loop-place-test.false, c.loop-place.auto.place-end) in
    stream-ends c.write-2.result c.args.seed c.args.count c.from-2.result c.destroy_message.result (g.O.ByteSink.told c.args.output.now)
    (g.O.ByteSink.told c.loop-place.output) (g.O.ByteSink.told c.write-2.new.output)
    (subst (λ (n : ℕ). PutsBytes (concat (front c.args.seed n)) (g.O.ByteSink.told c.args.output.now) (g.O.ByteSink.told c.loop-place.output)) all
    c.loop-place.invariant.put)
    c.from-2.ensures c.destroy_message.ensures c.write-2.ensures
