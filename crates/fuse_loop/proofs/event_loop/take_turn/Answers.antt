-- One turn of the loop: no message, one that ends the run, or one after which it goes on.
use Rattle.std.proofs.Common.{◌≡◌, Err, List, ℕ, subst, take}
use Rattle.fuse_header.specs.Header.{header}
use Rattle.fuse_reply.specs.Answer.Answer.{Empty}
use Rattle.fuse_reply.specs.Frame.{reply}
use Rattle.fuse_reply.specs.declared.out.Out.{Out}
use Rattle.fuse_reply.specs.declared.out.Out.TheVariants.{Frame}
use Rattle.fuse_loop.specs.Answering.{IsRequest}
use Rattle.fuse_loop.specs.Progress.{DeliversOnce}
use Rattle.fuse_loop.specs.Incoming.{id_of}
use Rattle.fuse_loop.specs.Arrives.{Arrives}
use Rattle.fuse_loop.specs.declared.incoming.Incoming.TheVariants as found
use Rattle.fuse_loop.proofs.LoopSteps.{Run-gone, Run-failed, Run-broken, Run-destroyed, RunOn-next, incoming-request, prompt-shut}
use Rattle.fuse_loop.proofs.event_loop.take_turn.Goals as goal

pub returns-in-Gone-clause-turn : goal.returns-in-Gone-clause-turn
returns-in-Gone-clause-turn g c = λ place number. Run-gone (g.W.Work.owed c.args.work.now) place c.args.channel.now c.take_message.new.self c.in-Gone.ensures

pub returns-in-Failed-clause-turn : goal.returns-in-Failed-clause-turn
returns-in-Failed-clause-turn g c =
    λ place number. Run-failed (g.W.Work.owed c.args.work.now) place c.args.channel.now c.take_message.new.self c.in-Failed.ensures

pub returns-in-Broken-clause-turn : goal.returns-in-Broken-clause-turn
returns-in-Broken-clause-turn g c = λ place number.
    Run-broken (g.W.Work.owed c.args.work.now) place c.in-Message.count c.args.channel.now c.take_message.new.self c.in-Message.ensures
    (subst (λ (m : List ℕ). header m ≡ Err c.in-Broken.error) c.message-message.ensures c.in-Broken.ensures)

pub returns-in-Destroy-clause-turn : goal.returns-in-Destroy-clause-turn
returns-in-Destroy-clause-turn g c = λ place number.
    let m = take c.in-Message.count c.take_message.new.self.buffer in
    let arrives : Arrives (found.Destroy c.in-Destroy.id) m =
    subst (λ (x : List ℕ). Arrives (found.Destroy c.in-Destroy.id) x) c.message-message.ensures c.in-Destroy.ensures in
    Run-destroyed (g.W.Work.owed c.args.work.now) place c.args.seq c.in-Message.count c.args.channel.now c.take_message.new.self c.deliver.new.self
    (Frame (reply (id_of m) Empty)) c.in-Message.ensures number arrives.0
    ((g.met.W.Work g.world.𝓛 g.world.𝓜 g.world.𝓡 ((λ s x. x), (λ x. x), (λ x. x), λ x. x)).owed_to_destroy c.args.work.now c.args.seq m arrives.0) tt
    (subst (λ (id : ℕ). DeliversOnce (Frame (reply id Empty)) c.take_message.new.self c.deliver.new.self) arrives.1
    (subst (λ (out : Out). DeliversOnce out c.take_message.new.self c.deliver.new.self) c.destroy_reply.ensures c.deliver.ensures))

pub returns-clause-turn : goal.returns-clause-turn
returns-clause-turn g c = λ place number.
    let m = take c.in-Message.count c.take_message.new.self.buffer in
    let request : IsRequest m = subst IsRequest c.message-message.ensures c.in-Request.ensures in
    RunOn-next (g.W.Work.owed c.args.work.now) place c.args.seq c.in-Message.count c.args.channel.now c.take_message.new.self c.deliver-in-Request.new.self
    c.answer-out.result c.in-Message.ensures number (incoming-request m request.0 request.1 request.2)
    (subst (λ (x : List ℕ). g.W.Work.owed c.args.work.now c.args.seq x c.answer-out.result) c.message-message.ensures c.answer-out.ensures.owed)
    (prompt-shut c.args.seq c.message-message.result.now c.answer-out.result c.answer-out.ensures.later) c.deliver-in-Request.ensures
