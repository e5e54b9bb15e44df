use Rattle.fuse_core.proofs.Bookkeeping.{IsBookOf-holds_none}
use Rattle.fuse_core.proofs.book_laws.no_frame_is_held_with_an_unused_mark.Goals as goal

pub returns : goal.returns
returns g c = λ book marks came sent h whole tag unused. IsBookOf-holds_none book marks came sent h whole tag unused
