use Rattle.std.proofs.Common.{◌∙◌, ◌++◌, [], ◌∷◌, List, ap, append-nil, append_assoc, sym}
use Rattle.fuse_line.specs.Hand.{hand, with_taken}
use Rattle.fuse_line.specs.declared.hand.Hand.{Hand}
use Rattle.fuse_line.specs.declared.hand.Kind.{Kind}
use Rattle.fuse_line.specs.declared.hand.Kind.TheVariants.{First}
use Rattle.fuse_reply.specs.declared.parcel.Parcel.{Parcel}
use Rattle.fuse_workers.specs.Relays.{relay_of}
use Rattle.fuse_workers.proofs.Relaying.{Relays-none, Relays-one, Relays-then}
use Rattle.fuse_workers.proofs.sender.send_rest.Goals as goal

pub loop-init : goal.loop-init
loop-init g c =
    let v = c.args.pass.now.hand in (
      c.requires.line,
      [],
      ap (λ (k : Kind). hand k v.others v.put v.taken) c.requires.first
          ∙ ap (λ (l : List Parcel). hand First v.others v.put l) (sym (append-nil v.taken)),
      Relays-none (relay_of c.args.relay.now.outlet c.args.relay.now.book),
    )

pub loop-preserved : goal.loop-preserved
loop-preserved g c =
    let so_far = c.loop.invariant in
    let v = c.args.pass.now.hand in
    let x = c.in-Some-pop.parcel in (
      c.pop.ensures.line,
      so_far.1 ++ x ∷ [],
      c.in-Some-pop.ensures.hand
          ∙ (ap (λ (h : Hand Parcel). with_taken h x) so_far.2
          ∙ ap (λ (l : List Parcel). hand First v.others v.put l) (append_assoc v.taken so_far.1 (x ∷ []))),
      Relays-then so_far.1 (x ∷ []) _ _ _ so_far.3 (Relays-one x _ _ c.deliver_parcel.ensures),
    )
