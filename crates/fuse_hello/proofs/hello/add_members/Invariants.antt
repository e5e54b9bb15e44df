use Rattle.std.proofs.Common.{◌≡◌, ◌+◌, ◌≤◌, ◌++◌, drop, length}
use Rattle.fuse_reply.specs.Listing.{fitting, listing}
use Rattle.fuse_hello.specs.Tree.{members}
use Rattle.fuse_hello.proofs.hello.add_members.Given as goal

-- what is held, joined with what of the rest will fit, is the whole; and all of the rest would be held without memory
abbrev pub invariant-loop-place : goal.invariant-loop-place
invariant-loop-place l = record {
  same : l.reply ≡ record l.fn.reply { held = l.reply.held };
  joined : l.reply.held ++ listing (fitting l.fn.reply.size (length l.reply.held) (drop l.place members))
      ≡ listing (fitting l.fn.reply.size 0 (drop l.fn.offset members));
  short : length l.reply.held + length (listing (drop l.place members)) ≤ 136;
}
