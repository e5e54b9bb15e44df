-- The parts are those of the notice, and a frame can carry it.
use Rattle.std.proofs.Common.{◌≡◌, ◌∙◌, rules}
use Rattle.fuse_reply.specs.Notice.{notice}
use Rattle.fuse_reply.specs.Notice.Notice.{InvalEntry}
use Rattle.fuse_notify.proofs.Notices.{is_notice_frame, entry_frame, entry_fits}
use Rattle.fuse_notify.proofs.notice.Notice.inval_entry.Goals as goal

pub new-requires : goal.new-requires
new-requires c =
    let made : c.in-Ok.packed ≡ notice (InvalEntry c.args.parent.0 c.args.name.now) =
    entry_frame c.in-Ok.packed c.entry_head_bytes-head.result c.args.parent.0 c.args.name.now c.in-Ok.ensures.ok (search rules) in
    is_notice_frame c.in-Ok.packed (InvalEntry c.args.parent.0 c.args.name.now) made (search rules) (entry_fits c.args.parent.0 c.args.name.now (search rules))

pub returns : goal.returns
returns c = (
  c.new.ensures
      ∙ entry_frame c.in-Ok.packed c.entry_head_bytes-head.result c.args.parent.0 c.args.name.now c.in-Ok.ensures.ok (search rules),
  entry_fits c.args.parent.0 c.args.name.now (search rules),
)
