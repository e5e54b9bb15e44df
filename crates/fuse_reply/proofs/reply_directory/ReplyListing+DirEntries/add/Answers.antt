-- What is held stays entries.
use Rattle.std.proofs.Common.{◌≡◌, ◌++◌, length, replicate, ap, ◌∙◌, arith, rules}
use Rattle.fuse_reply.specs.Answer.{IsDirEntry}
use Rattle.fuse_reply.specs.Listing.{DirEntry, dirent, dirent_head, entry_type, padding}
use Rattle.fuse_reply.proofs.ListingLaws.{listing-after, length-dirent}
use Rattle.fuse_reply.proofs.reply_directory.ReplyListing+DirEntries.add.Goals as goal

pub invariant_of-self : goal.invariant_of-self
unfolding dirent
invariant_of-self c =
    let name = c.args.name.now in
    let e : DirEntry = record { ino = c.args.ino.0; offset = c.args.offset; kind = c.args.kind; name = name } in
    let head_is : c.dirent_head_bytes-head.result ≡ dirent_head e.ino e.offset (length name) (entry_type e.kind) =
    c.dirent_head_bytes-head.ensures ∙ ap (dirent_head e.ino e.offset (length name)) c.type_of.ensures in
    let in_range : IsDirEntry e = search rules in
    listing-after dirent IsDirEntry c.self.inside.size c.self.inside.held c.put_entry.new.held e c.put_entry.result c.self.invariant in_range
    (λ taken. c.put_entry.ensures.taken taken
    ∙ ap (λ head. c.self.inside.held.items ++ (head ++ name ++ replicate (padding (length name)) 0)) head_is)
    (λ taken. omega (arith, c.put_entry.ensures.fits taken, length-dirent e))
    c.put_entry.ensures.kept c.put_entry.ensures.err
