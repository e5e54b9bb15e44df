-- The parts are those of the notice, and a frame can carry it.
use Rattle.std.proofs.Common.{◌≡◌, ◌∙◌, rules}
use Rattle.fuse_reply.specs.Notice.{notice}
use Rattle.fuse_reply.specs.Notice.Notice.{Delete}
use Rattle.fuse_notify.proofs.Notices.{is_notice_frame, delete_frame, delete_fits}
use Rattle.fuse_notify.proofs.notice.Notice.delete.Goals as goal

pub new-requires : goal.new-requires
new-requires c =
    let made : c.in-Ok.packed ≡ notice (Delete c.args.parent.0 c.args.child.0 c.args.name.now) =
    delete_frame c.in-Ok.packed c.wide_head_bytes-head.result c.args.parent.0 c.args.child.0 c.args.name.now c.in-Ok.ensures.ok (search rules) in
    is_notice_frame c.in-Ok.packed (Delete c.args.parent.0 c.args.child.0 c.args.name.now) made (search rules)
    (delete_fits c.args.parent.0 c.args.child.0 c.args.name.now (search rules))

pub returns : goal.returns
returns c = (
  c.new.ensures
      ∙ delete_frame c.in-Ok.packed c.wide_head_bytes-head.result c.args.parent.0 c.args.child.0 c.args.name.now c.in-Ok.ensures.ok (search rules),
  delete_fits c.args.parent.0 c.args.child.0 c.args.name.now (search rules),
)
