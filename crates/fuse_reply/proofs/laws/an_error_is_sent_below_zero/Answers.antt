-- The status of an error's frame is that of the error.
use Rattle.fuse_reply.specs.Answer.Answer.{Error}
use Rattle.fuse_reply.proofs.FrameLaws.{frame_status-reply}
use Rattle.fuse_reply.proofs.laws.an_error_is_sent_below_zero.Goals as goal

pub returns : goal.returns
returns c id errno above below = frame_status-reply id (Error errno) (above, below)
