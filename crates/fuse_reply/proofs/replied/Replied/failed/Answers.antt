-- The frame is the reply by that error.
use Rattle.std.proofs.Common.{rules}
use Rattle.fuse_reply.proofs.AreReplies.{error_is_reply}
use Rattle.fuse_reply.proofs.replied.Replied.failed.Goals as goal

pub by-requires : goal.by-requires
by-requires c = error_is_reply _ c.args.id.0 c.args.error (search rules) (search rules) (search rules)
