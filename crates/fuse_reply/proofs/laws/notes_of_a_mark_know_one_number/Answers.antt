-- What two seats have read is what the word tells.
use Rattle.fuse_reply.proofs.Marking.{one_number}
use Rattle.fuse_reply.proofs.laws.notes_of_a_mark_know_one_number.Goals as goal

pub returns : goal.returns
returns c = one_number
