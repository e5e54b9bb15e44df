use Rattle.fuse_core.proofs.Bookkeeping.{IsBookOf-came}
use Rattle.fuse_core.proofs.book_laws.each_late_frame_that_is_sent_came.Goals as goal

pub returns : goal.returns
returns g c = λ book marks came sent h whole. IsBookOf-came book marks came sent h whole
