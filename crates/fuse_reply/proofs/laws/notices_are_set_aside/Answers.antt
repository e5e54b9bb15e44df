-- The status of a notice is its code, so that it is set aside.
use Rattle.fuse_reply.proofs.NoticeLaws.{frame_status-notice, set_aside-notice, is_frame-notice}
use Rattle.fuse_reply.proofs.laws.notices_are_set_aside.Goals as goal

pub returns-clause-aside : goal.returns-clause-aside
returns-clause-aside c n = set_aside-notice n

pub returns-clause-status : goal.returns-clause-status
returns-clause-status c n = frame_status-notice n

pub returns-clause-counted : goal.returns-clause-counted
returns-clause-counted c n valid = (is_frame-notice n valid).length_field
