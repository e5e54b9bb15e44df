use Rattle.std.proofs.Common.{subst, sym}
use Rattle.fuse_line.specs.declared.hand.Hand.{Hand}
use Rattle.fuse_reply.specs.declared.parcel.Parcel.{Parcel}
use Rattle.fuse_workers.specs.Relays.{IsRelayed, relay_of}
use Rattle.fuse_workers.proofs.Relaying.{IsRelayed-next, IsRelayed-none}
use Rattle.fuse_workers.proofs.sender.send_parcels.Goals as goal

pub loop-init : goal.loop-init
loop-init g c = (
  tt,
  tt,
  c.requires.line,
  subst (λ (v : Hand Parcel). IsRelayed v (relay_of c.args.relay.now.outlet c.args.relay.now.book) (relay_of c.args.relay.now.outlet c.args.relay.now.book))
      (sym c.requires.hand) (IsRelayed-none (relay_of c.args.relay.now.outlet c.args.relay.now.book)),
)

pub loop-preserved : goal.loop-preserved
loop-preserved g c = (
  tt,
  tt,
  c.pop_waiting.ensures.line,
  subst (λ (v : Hand Parcel). IsRelayed v (relay_of c.args.relay.now.outlet c.args.relay.now.book)
      (relay_of c.deliver_parcel.new.self.outlet c.deliver_parcel.new.self.book)) (sym c.in-Some-pop_waiting.ensures.hand)
      (IsRelayed-next _ _ _ _ _ c.loop.invariant.3 c.deliver_parcel.ensures),
)
