-- The word is 0, or one more than a number.
use Rattle.fuse_reply.proofs.Marking.{two_cases}
use Rattle.fuse_reply.proofs.laws.a_mark_is_set_or_not.Goals as goal

pub returns : goal.returns
returns c = two_cases
