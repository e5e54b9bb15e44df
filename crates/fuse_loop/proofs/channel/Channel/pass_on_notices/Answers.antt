use Rattle.std.proofs.Common.{sym, ap, subst, List, ℕ}
use Rattle.fuse_line.specs.Seen.{Seen}
use Rattle.fuse_reply.specs.declared.parcel.Parcel.{Parcel}
use Rattle.fuse_loop.specs.Lines.{notices_in}
use Rattle.fuse_loop.specs.Progress.{NoticesAlone, beside}
use Rattle.fuse_loop.proofs.Moving.{NoticesAlone-none}
use Rattle.fuse_loop.proofs.channel.Channel.pass_on_notices.Goals as goal

pub returns-in-Some-clause-notices : goal.returns-in-Some-clause-notices
returns-in-Some-clause-notices g c =
    let p = c.args.self.now.progress in
    subst (λ (unasked : List (List ℕ)). NoticesAlone (beside p (notices_in c.args.frames.now.hand.taken)) (beside p unasked))
    (sym (ap (λ (s : Seen Parcel). notices_in s.hand.taken) c.see_empty.ensures.same)) (NoticesAlone-none _)
