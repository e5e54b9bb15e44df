-- The law, for these two slices.
use Rattle.fuse_request.proofs.AfterLaws.{unread_after}
use Rattle.fuse_request.proofs.laws.bytes_after_are_not_read.Goals as goal

pub returns : goal.returns
returns c = unread_after c.args.message.now c.args.others.now
