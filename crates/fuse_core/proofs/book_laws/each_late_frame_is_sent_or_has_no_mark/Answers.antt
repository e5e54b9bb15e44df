use Rattle.fuse_core.proofs.Bookkeeping.{IsBookOf-sent}
use Rattle.fuse_core.proofs.book_laws.each_late_frame_is_sent_or_has_no_mark.Goals as goal

pub returns : goal.returns
returns g c = λ book marks came sent h whole. IsBookOf-sent book marks came sent h whole
