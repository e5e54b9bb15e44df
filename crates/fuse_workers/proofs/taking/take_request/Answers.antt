use Rattle.std.proofs.Common.{◌≡◌, Err, List, ℕ, refl, subst, take}
use Rattle.fuse_header.specs.Header.{header}
use Rattle.fuse_loop.specs.Answering.{IsRequest}
use Rattle.fuse_loop.specs.Arrives.{Arrives}
use Rattle.fuse_loop.specs.declared.incoming.Incoming.TheVariants as found
use Rattle.fuse_loop.proofs.LoopSteps.{incoming-request}
use Rattle.fuse_workers.proofs.Hearing.{HearsLast-broken, HearsLast-destroy, HearsLast-failed, HearsLast-gone, HearsOn-one}
use Rattle.fuse_workers.proofs.taking.take_request.Goals as goal

pub returns-in-Gone-clause-heard : goal.returns-in-Gone-clause-heard
returns-in-Gone-clause-heard g c = HearsLast-gone c.args.seq _ _ c.in-Gone.ensures

pub returns-in-Failed-clause-heard : goal.returns-in-Failed-clause-heard
returns-in-Failed-clause-heard g c = HearsLast-failed c.args.seq _ _ c.in-Failed.ensures

pub returns-in-Broken-clause-heard : goal.returns-in-Broken-clause-heard
returns-in-Broken-clause-heard g c =
    HearsLast-broken c.args.seq c.in-Message.count c.in-Broken.error _ _ c.in-Message.ensures
    (subst (λ (m : List ℕ). header m ≡ Err c.in-Broken.error) c.message.ensures c.in-Broken.ensures)

pub returns-in-Destroy-clause-heard : goal.returns-in-Destroy-clause-heard
returns-in-Destroy-clause-heard g c =
    let m = take c.in-Message.count c.take_message.new.self.buffer in
    let arrives : Arrives (found.Destroy c.in-Destroy.id) m =
    subst (λ (b : List ℕ). Arrives (found.Destroy c.in-Destroy.id) b) c.message.ensures c.in-Destroy.ensures in
    HearsLast-destroy c.args.seq c.in-Message.count c.in-Destroy.id _ _ c.in-Message.ensures arrives.0 arrives.1

pub returns-in-Request-clause-heard : goal.returns-in-Request-clause-heard
returns-in-Request-clause-heard g c =
    let m = take c.in-Message.count c.take_message.new.self.buffer in
    let request : IsRequest m = subst IsRequest c.message.ensures c.in-Request.ensures in (
      request,
      HearsOn-one c.in-Message.count _ _ c.in-Message.ensures (incoming-request m request.0 request.1 request.2) m refl,
    )
