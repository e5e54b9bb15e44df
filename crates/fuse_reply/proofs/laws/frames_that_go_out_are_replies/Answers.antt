-- What goes out as a frame is a reply, so that it is not set aside, and is a whole frame.
use Rattle.std.proofs.Common.{rules}
use Rattle.fuse_reply.specs.Frame.{IsReply}
use Rattle.fuse_reply.proofs.FrameLaws.{not_set_aside-is_reply, is_frame-is_reply}
use Rattle.fuse_reply.proofs.laws.frames_that_go_out_are_replies.Goals as goal

pub returns-in-Frame-clause-kept : goal.returns-in-Frame-clause-kept
returns-in-Frame-clause-kept c bytes same =
    let answers : IsReply bytes = search rules in not_set_aside-is_reply bytes answers

pub returns-in-Frame-clause-whole : goal.returns-in-Frame-clause-whole
returns-in-Frame-clause-whole c bytes same =
    let answers : IsReply bytes = search rules in is_frame-is_reply bytes answers
