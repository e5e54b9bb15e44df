-- The notice that was made is queued. What stands in 8 bytes, with its sign, is the number.
use Rattle.std.proofs.Common.{◌∙◌, ap, arith, to_z, of_z, ℤ}
use Rattle.std.proofs.lemmas.Int.{to_z-of_z}
use Rattle.std.specs.Int.{w64}
use Rattle.fuse_reply.specs.Notice.{notice}
use Rattle.fuse_reply.specs.Notice.Notice.{InvalInode}
use Rattle.fuse_notify.proofs.notifier.Notifier.inval_inode.Goals as goal

pub returns : goal.returns
returns g c =
    let len : ℤ = c.args.len in
    let offset : ℤ = c.args.offset in
    c.queue.ensures (InvalInode c.args.ino.0 offset len) (
      c.inval_inode-notice.ensures
          ∙ ap (λ o. notice (InvalInode c.args.ino.0 o (to_z w64 (of_z w64 len)))) (to_z-of_z w64 offset c.ranges.offset)
          ∙ ap (λ l. notice (InvalInode c.args.ino.0 offset l)) (to_z-of_z w64 len c.ranges.len),
      omega arith,
    )
