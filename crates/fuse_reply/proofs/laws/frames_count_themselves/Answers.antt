-- Frames on a stream split, and so do replies.
use Rattle.fuse_reply.specs.Frame.{frame}
use Rattle.fuse_reply.proofs.FrameLaws.{is_frame-frame}
use Rattle.fuse_reply.proofs.Splitting.{frames-append, frames-frame_of, frames-reply_frames}
use Rattle.fuse_reply.proofs.laws.frames_count_themselves.Goals as goal

pub returns-clause-counted : goal.returns-clause-counted
returns-clause-counted c id status payload fits = (is_frame-frame id status payload fits).length_field

pub returns-clause-first : goal.returns-clause-first
returns-clause-first c id status payload after fits =
    frames-append (frame id status payload) after (is_frame-frame id status payload fits)

pub returns-clause-split : goal.returns-clause-split
returns-clause-split c parts short = frames-frame_of parts short

pub returns-clause-replies : goal.returns-clause-replies
returns-clause-replies c answers in_range = frames-reply_frames answers in_range
