use Rattle.fuse_core.proofs.Bookkeeping.{IsBookOf-matches}
use Rattle.fuse_core.proofs.book_laws.late_frames_go_to_different_marks.Goals as goal

pub returns : goal.returns
returns g c = λ book marks came sent h. IsBookOf-matches book marks came sent h
