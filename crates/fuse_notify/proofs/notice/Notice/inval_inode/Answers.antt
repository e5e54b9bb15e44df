-- The frame is that of the notice.
use Rattle.std.proofs.Common.{◌≡◌, ◌∙◌, rules, arith}
use Rattle.fuse_reply.specs.Notice.{notice}
use Rattle.fuse_reply.specs.Notice.Notice.{InvalInode}
use Rattle.fuse_notify.proofs.Notices.{is_notice_frame, range_frame}
use Rattle.fuse_notify.proofs.notice.Notice.inval_inode.Goals as goal

pub new-requires-2 : goal.new-requires-2
new-requires-2 c =
    let made : c.unwrap-packed.result ≡ notice (InvalInode c.args.ino.0 c.args.offset c.args.len) =
    range_frame c.unwrap-packed.result c.range_bytes-payload.result c.args.ino.0 c.args.offset c.args.len (search rules) (search rules) in
    is_notice_frame c.unwrap-packed.result (InvalInode c.args.ino.0 c.args.offset c.args.len) made (search rules) (omega arith)

pub returns : goal.returns
returns c =
    c.new-2.ensures
    ∙ range_frame c.unwrap-packed.result c.range_bytes-payload.result c.args.ino.0 c.args.offset c.args.len (search rules) (search rules)
