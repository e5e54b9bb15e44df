-- What is sent is a notice, so that it is set aside.
use Rattle.std.proofs.Common.{rules}
use Rattle.fuse_reply.specs.Notice.{IsNoticeFrame}
use Rattle.fuse_reply.proofs.NoticeLaws.{set_aside-is_notice_frame}
use Rattle.fuse_reply.proofs.notice_frame.NoticeFrame.send.Goals as goal

pub returns-clause-aside : goal.returns-clause-aside
returns-clause-aside g c = let is_notice : IsNoticeFrame c.args.self.now = search rules in set_aside-is_notice_frame c.args.self.now is_notice
