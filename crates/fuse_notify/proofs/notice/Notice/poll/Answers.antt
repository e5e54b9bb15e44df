-- The frame is that of the notice.
use Rattle.std.proofs.Common.{rules, arith}
use Rattle.fuse_reply.specs.Notice.Notice.{Poll}
use Rattle.fuse_notify.proofs.Notices.{is_notice_frame}
use Rattle.fuse_notify.proofs.notice.Notice.poll.Goals as goal

pub new-requires-2 : goal.new-requires-2
new-requires-2 c = is_notice_frame c.unwrap-packed.result (Poll c.args.handle.0) (search rules) (search rules) (omega arith)
