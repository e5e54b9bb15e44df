-- What the Seal has set is what the word tells.
use Rattle.fuse_reply.proofs.Marking.{set_number}
use Rattle.fuse_reply.proofs.laws.notes_know_what_the_seal_set.Goals as goal

pub returns : goal.returns
returns c = set_number
