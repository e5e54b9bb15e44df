-- What comes of pushing a parcel by a door.
use Rattle.crossbeam_queue.specs.Fifo.{Held}
use Rattle.fuse_line.specs.Hand.{with_put}
use Rattle.fuse_line.specs.Seen.{Seen}
use Rattle.fuse_line.specs.Tells.{Tells}
use Rattle.fuse_reply.specs.Parcel.{is_prompt}
use Rattle.fuse_reply.specs.declared.parcel.Parcel.{Parcel}

-- the pass after this parcel was pushed
abbrev pub with_parcel : Seen Parcel → Parcel → Seen Parcel
with_parcel pass parcel = record { line = pass.line; hand = with_put pass.hand parcel }

-- a push by this pass found each place of the line taken
abbrev pub FoundFull : Seen Parcel → Type 0
FoundFull pass = Held pass.line.slots (Tells is_prompt pass.hand)
