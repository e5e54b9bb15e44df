-- What is held stays entries.
use Rattle.std.proofs.Common.{◌≡◌, ◌++◌, length, replicate, ap, ◌∙◌, arith, rules}
use Rattle.fuse_reply.specs.Answer.{IsPlusEntry}
use Rattle.fuse_reply.specs.Attributes.{entry_payload}
use Rattle.fuse_reply.specs.Listing.{PlusEntry, dirent, direntplus, dirent_head, entry_type, padding}
use Rattle.fuse_reply.proofs.ListingLaws.{listing-after, length-direntplus}
use Rattle.fuse_reply.proofs.reply_directory_plus.ReplyListing+PlusEntries.add.Goals as goal

pub invariant_of-self : goal.invariant_of-self
unfolding dirent direntplus
invariant_of-self c =
    let name = c.args.name.now in
    let attr = c.args.attr.now in
    let e : PlusEntry = record { valid = c.args.ttl.now; generation = c.args.generation.0; attr = attr; offset = c.args.offset; name = name } in
    let head_is : c.dirent_head_bytes-head.result ≡ dirent_head attr.ino.0 e.offset (length name) (entry_type attr.kind) =
    c.dirent_head_bytes-head.ensures ∙ ap (dirent_head attr.ino.0 e.offset (length name)) c.type_of.ensures in
    let in_range : IsPlusEntry e = search rules in
    listing-after direntplus IsPlusEntry c.self.inside.size c.self.inside.held c.put_entry.new.held e c.put_entry.result c.self.invariant in_range
    (λ taken. c.put_entry.ensures.taken taken
    ∙ ap (λ lookup. c.self.inside.held.items ++ (lookup ++ (c.dirent_head_bytes-head.result ++ name ++ replicate (padding (length name)) 0)))
    c.entry_bytes-lookup.ensures.bytes
    ∙ ap (λ head. c.self.inside.held.items ++ (entry_payload e.valid e.valid e.generation attr ++ (head ++ name ++ replicate (padding (length name)) 0)))
    head_is)
    (λ taken. omega (arith, c.put_entry.ensures.fits taken, length-direntplus e))
    c.put_entry.ensures.kept c.put_entry.ensures.err
