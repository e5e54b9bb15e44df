-- What is sent is a reply, so that it is not set aside.
use Rattle.std.proofs.Common.{rules}
use Rattle.fuse_reply.specs.Frame.{IsReply}
use Rattle.fuse_reply.proofs.FrameLaws.{not_set_aside-is_reply}
use Rattle.fuse_reply.proofs.reply_frame.ReplyFrame.send.Goals as goal

pub returns-clause-kept : goal.returns-clause-kept
returns-clause-kept g c = let answers : IsReply c.args.self.now = search rules in not_set_aside-is_reply c.args.self.now answers
