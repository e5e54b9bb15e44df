-- The status of a reply is its answer's, so that it is not set aside.
use Rattle.fuse_reply.proofs.FrameLaws.{frame_status-reply, not_set_aside-reply}
use Rattle.fuse_reply.proofs.laws.replies_are_not_set_aside.Goals as goal

pub returns-clause-kept : goal.returns-clause-kept
returns-clause-kept c id answer valid = not_set_aside-reply id answer valid

pub returns-clause-status : goal.returns-clause-status
returns-clause-status c id answer valid = frame_status-reply id answer valid
