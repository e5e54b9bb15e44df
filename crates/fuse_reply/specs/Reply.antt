-- What a reply comes to.
use Rattle.std.specs.Prelude.{◌≡◌, ◌⊎◌, ℕ}
use Rattle.fuse_wire.specs.ErrorNumbers.{ENOMEM}
use Rattle.fuse_reply.specs.Answer.{Answer, IsLong}
use Rattle.fuse_reply.specs.Answer.Answer.{Error}
use Rattle.fuse_reply.specs.Frame.{reply}
use Rattle.fuse_reply.specs.declared.out.Out.{Out}
use Rattle.fuse_reply.specs.declared.out.Out.TheVariants.{Frame}

-- the frame of the answer, or, where it is long and no memory was to be had, that of the error ENOMEM
abbrev pub RepliesWith : (id : ℕ) → Answer → Out → Type 0
RepliesWith id answer out = (out ≡ Frame (reply id answer)) ⊎ (IsLong answer × (out ≡ Frame (reply id (Error ENOMEM))))
