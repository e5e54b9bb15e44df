-- The parts are those of the notice, and a frame can carry it.
use Rattle.std.proofs.Common.{◌≡◌, ◌∙◌, rules}
use Rattle.fuse_reply.specs.Notice.{notice}
use Rattle.fuse_reply.specs.Notice.Notice.{Store}
use Rattle.fuse_notify.proofs.Notices.{is_notice_frame, store_frame, store_fits}
use Rattle.fuse_notify.proofs.notice.Notice.store.Goals as goal

pub new-requires : goal.new-requires
new-requires c =
    let made : c.in-Ok.packed ≡ notice (Store c.args.ino.0 c.args.offset c.args.bytes.now) =
    store_frame c.in-Ok.packed c.wide_head_bytes-head.result c.args.ino.0 c.args.offset c.args.bytes.now c.in-Ok.ensures.ok (search rules) in
    is_notice_frame c.in-Ok.packed (Store c.args.ino.0 c.args.offset c.args.bytes.now) made (search rules)
    (store_fits c.args.ino.0 c.args.offset c.args.bytes.now (search rules))

pub returns : goal.returns
returns c = (
  c.new.ensures
      ∙ store_frame c.in-Ok.packed c.wide_head_bytes-head.result c.args.ino.0 c.args.offset c.args.bytes.now c.in-Ok.ensures.ok (search rules),
  store_fits c.args.ino.0 c.args.offset c.args.bytes.now (search rules),
)
