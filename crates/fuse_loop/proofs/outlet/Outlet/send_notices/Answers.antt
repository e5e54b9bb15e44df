use Rattle.std.proofs.Common.{ap, refl, ◌∙◌}
use Rattle.fuse_line.specs.Seen.{Seen}
use Rattle.fuse_reply.specs.declared.parcel.Parcel.{Parcel}
use Rattle.fuse_loop.proofs.FrameLines.{NoticesAlone-parcel, counts-parcel}
use Rattle.fuse_loop.proofs.Moving.{NoticesAlone-none}
use Rattle.fuse_loop.proofs.outlet.Outlet.send_notices.Goals as goal

pub loop-init : goal.loop-init
loop-init g c = (λ source counts. NoticesAlone-none _, refl, refl)

pub loop-preserved : goal.loop-preserved
loop-preserved g c =
    let sends = c.deliver_parcel.ensures in
    let next = c.in-Ok.ensures.taken in (
      λ source counts. NoticesAlone-parcel source counts _ c.loop.frames _ c.in-Ok.parcel _ _ next sends (c.loop.invariant.0 source counts),
      counts-parcel c.in-Ok.parcel _ _ next.1 sends ∙ c.loop.invariant.1,
      ap (λ (s : Seen Parcel). s.line) next.0 ∙ c.loop.invariant.2,
    )
