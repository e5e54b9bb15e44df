-- What comes of a lookup that may be put off.
use Rattle.std.specs.Prelude.{◌≡◌, ◌⊎◌, ℕ, Result}
use Rattle.fuse_wire.specs.ErrorNumbers.{EIO, ENOENT}
use Rattle.fuse_reply.specs.Answer.Answer.{Error}
use Rattle.fuse_reply.specs.Door.{DoorSeen}
use Rattle.fuse_reply.specs.Frame.{reply}
use Rattle.fuse_reply.specs.declared.door.NoDoor.{NoDoor}
use Rattle.fuse_reply.specs.declared.out.Out.{Out}
use Rattle.fuse_reply.specs.declared.out.Out.TheVariants.{Frame}
use Rattle.fuse_dispatch.specs.OwedMessage.{IsPutOff}

-- that there is no such name, or an error, or the mark of a reply that comes later
abbrev pub ComesOfLookup : (id : ℕ) → Result DoorSeen NoDoor → Out → Type 0
ComesOfLookup id door out = (out ≡ Frame (reply id (Error ENOENT))) ⊎ (out ≡ Frame (reply id (Error EIO))) ⊎ IsPutOff door id out
