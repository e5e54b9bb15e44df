use Rattle.std.proofs.Common.{◌≡◌, ◌++◌, List, length, drop}
use Rattle.std.specs.List.{AllByRecursion}
use Rattle.fuse_reply.specs.Answer.{IsDirEntry}
use Rattle.fuse_reply.specs.Listing.{DirEntry, fitting, listing}
use Rattle.fuse_read_only.specs.Tree.{with_offsets}
use Rattle.fuse_read_only.specs.ReadOnly.{listing_of}
use Rattle.fuse_read_only.proofs.listing.add_entries.Given as goal

-- what was taken, joined with what of the rest will fit, is the whole
abbrev pub invariant-loop-place : goal.invariant-loop-place
invariant-loop-place g l = record {
  taken : List DirEntry;
  in_range : AllByRecursion IsDirEntry taken;
  same : l.reply ≡ record l.fn.reply { held = listing taken };
  joined : taken ++ fitting l.fn.reply.size (length (listing taken)) (with_offsets l.place (drop l.place ((g.T.Files.tree l.files).entries l.ino.0)))
      ≡ listing_of (g.T.Files.tree l.files) l.ino.0 l.fn.offset l.fn.reply.size;
}
