-- One step of the handshake: no message, one that ends it, or one after which the next is awaited.
use Rattle.std.proofs.Common.{Result, List, ℕ, sym, subst, ap, ◌∙◌, take, pos, refl}
use Rattle.fuse_reply.specs.Frame.{frame}
use Rattle.fuse_reply.specs.declared.out.Out.{Out}
use Rattle.fuse_reply.specs.declared.out.Out.TheVariants.{Frame}
use Rattle.fuse_session.specs.Handshake.{greeting}
use Rattle.fuse_session.specs.HandshakeStep.{HandshakeRun}
use Rattle.fuse_loop.specs.Progress.{DeliversOnce}
use Rattle.fuse_session.specs.declared.greeting.Greeting.TheVariants.{NotInit, Old}
use Rattle.fuse_session.specs.declared.greeting.HandshakeError.{HandshakeError}
use Rattle.fuse_session.specs.declared.greeting.HandshakeError.TheVariants.{InvalidData, Unsupported}
use Rattle.fuse_session.specs.declared.invalid_data.InvalidData.TheVariants as invalid
use Rattle.fuse_wire.specs.ErrorNumbers.{EIO, EPROTO}
use Rattle.fuse_wire.specs.declared.flags.init_flags.InitFlags.{InitFlags}
use Rattle.fuse_session.proofs.HandshakeSteps.{accepted_outcome, HandshakeRun-gone, HandshakeRun-failed, HandshakeRun-silent}
use Rattle.fuse_session.proofs.HandshakeSteps.{HandshakeRun-refused, HandshakeRun-offered, HandshakeOn-newer}
use Rattle.fuse_session.proofs.steps.take_step.Goals as goal

pub returns-in-Gone : goal.returns-in-Gone
returns-in-Gone g c = HandshakeRun-gone c.args.channel.now c.take_message.new.self c.in-Gone.ensures

pub returns-in-Failed : goal.returns-in-Failed
returns-in-Failed g c = HandshakeRun-failed c.args.channel.now c.take_message.new.self c.in-Failed.ensures

pub returns-in-Silent : goal.returns-in-Silent
returns-in-Silent g c =
    HandshakeRun-silent g.FS.Filesystem.promise.may_init c.args.page_size c.args.filesystem.now c.in-Silent.invalid c.in-Message.count
    c.args.channel.now c.take_message.new.self c.in-Message.ensures
    (sym c.in-Silent.is ∙ (c.of.ensures.greeting ∙ ap greeting c.message.ensures))

pub returns-in-NotInit : goal.returns-in-NotInit
returns-in-NotInit g c =
    HandshakeRun-refused g.FS.Filesystem.promise.may_init c.args.page_size c.args.filesystem.now (NotInit c.in-NotInit.id c.in-NotInit.opcode)
    c.in-NotInit.id EIO (InvalidData (invalid.NotInit c.in-NotInit.opcode))
    c.in-Message.count c.args.channel.now c.take_message.new.self c.deliver.new.self c.in-Message.ensures
    (sym c.in-NotInit.is ∙ (c.of.ensures.greeting ∙ ap greeting c.message.ensures))
    (subst (λ (o : Out). DeliversOnce o c.take_message.new.self c.deliver.new.self) c.refusal.ensures c.deliver.ensures) (refl, refl, refl, refl)

pub returns-in-Old : goal.returns-in-Old
returns-in-Old g c =
    HandshakeRun-refused g.FS.Filesystem.promise.may_init c.args.page_size c.args.filesystem.now (Old c.in-Old.id c.in-Old.version)
    c.in-Old.id EPROTO (Unsupported c.in-Old.version)
    c.in-Message.count c.args.channel.now c.take_message.new.self c.deliver-in-Old.new.self c.in-Message.ensures
    (sym c.in-Old.is ∙ (c.of.ensures.greeting ∙ ap greeting c.message.ensures))
    (subst (λ (o : Out). DeliversOnce o c.take_message.new.self c.deliver-in-Old.new.self) c.refusal-in-Old.ensures c.deliver-in-Old.ensures)
    (refl, refl, refl, refl)

pub returns-in-Newer : goal.returns-in-Newer
returns-in-Newer g c =
    HandshakeOn-newer g.FS.Filesystem.promise.may_init c.args.page_size c.args.filesystem.now c.in-Newer.id
    c.in-Message.count c.args.channel.now c.take_message.new.self c.deliver-in-Newer.new.self c.in-Message.ensures
    (sym c.in-Newer.is ∙ (c.of.ensures.greeting ∙ ap greeting c.message.ensures))
    (subst (λ (o : Out). DeliversOnce o c.take_message.new.self c.deliver-in-Newer.new.self)
    (c.init_frame.ensures ∙ ap (λ (b : List ℕ). Frame (frame c.in-Newer.id.0 (pos 0) (take 64 b))) c.version_reply.ensures) c.deliver-in-Newer.ensures)

pub returns-in-Ok : goal.returns-in-Ok
returns-in-Ok g c =
    subst (λ (x : Result InitFlags HandshakeError). HandshakeRun g.FS.Filesystem.promise.may_init c.args.page_size (accepted_outcome x)
    c.args.filesystem.now c.negotiate-out.new.filesystem c.args.channel.now.progress c.deliver-in-Offered.new.self.progress) c.in-Ok.is
    (HandshakeRun-offered g.FS.Filesystem.promise.may_init c.args.page_size c.args.filesystem.now c.negotiate-out.new.filesystem
    c.in-Offered.request c.in-Offered.offer c.negotiate-out.ensures.0 c.negotiate-out.result.1
    c.in-Message.count c.args.channel.now c.take_message.new.self c.deliver-in-Offered.new.self c.in-Message.ensures
    (sym c.in-Offered.is ∙ (c.of.ensures.greeting ∙ ap greeting c.message.ensures)) c.negotiate-out.ensures.2
    (subst (λ (o : Out). DeliversOnce o c.take_message.new.self c.deliver-in-Offered.new.self) c.negotiate-out.ensures.1 c.deliver-in-Offered.ensures))

pub returns-in-Err : goal.returns-in-Err
returns-in-Err g c =
    subst (λ (x : Result InitFlags HandshakeError). HandshakeRun g.FS.Filesystem.promise.may_init c.args.page_size (accepted_outcome x)
    c.args.filesystem.now c.negotiate-out.new.filesystem c.args.channel.now.progress c.deliver-in-Offered.new.self.progress) c.in-Err.is
    (HandshakeRun-offered g.FS.Filesystem.promise.may_init c.args.page_size c.args.filesystem.now c.negotiate-out.new.filesystem
    c.in-Offered.request c.in-Offered.offer c.negotiate-out.ensures.0 c.negotiate-out.result.1
    c.in-Message.count c.args.channel.now c.take_message.new.self c.deliver-in-Offered.new.self c.in-Message.ensures
    (sym c.in-Offered.is ∙ (c.of.ensures.greeting ∙ ap greeting c.message.ensures)) c.negotiate-out.ensures.2
    (subst (λ (o : Out). DeliversOnce o c.take_message.new.self c.deliver-in-Offered.new.self) c.negotiate-out.ensures.1 c.deliver-in-Offered.ensures))
