use Rattle.std.proofs.Common.{arith, refl}
use Rattle.fuse_reply.proofs.ListingLaws.{length-dirent}
use Rattle.fuse_read_only.specs.Tree.{followed_by, member_of}
use Rattle.fuse_read_only.proofs.listing.add_entry.Goals as goal

pub returns-then-entry-clause-adds : goal.returns-then-entry-clause-adds
returns-then-entry-clause-adds c =
    let e = followed_by c.args.offset (member_of c.args.entry.now) in
    (λ fits. omega (arith, fits, c.if-entry.true, length-dirent e), refl)
