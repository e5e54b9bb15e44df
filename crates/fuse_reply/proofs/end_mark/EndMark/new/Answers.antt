-- The Seal's seat splits off two reading ones.
use Rattle.std.proofs.Common.{rules}
use Rattle.fuse_reply.proofs.Marking.{first_reader}
use Rattle.fuse_reply.proofs.end_mark.EndMark.new.Goals as goal

pub split_seat-seat-requires : goal.split_seat-seat-requires
split_seat-seat-requires c = let made = c.in-Ok.ensures in (search rules, search rules, first_reader _ _)

pub split_seat-kept-requires : goal.split_seat-kept-requires
split_seat-kept-requires c =
    let made = c.in-Ok.ensures in
    let first = c.split_seat-seat.ensures in (search rules, search rules, first_reader _ _)
