-- What comes of queueing a notice. A notifier is seen as its door to the line.
use Rattle.std.specs.Prelude.{◌≡◌, ◌<◌, ℕ, List, [], length, Result, Ok, Err}
use Rattle.atomic_table.specs.Seated.{TableId}
use Rattle.fuse_line.specs.Hand.{hand}
use Rattle.fuse_line.specs.declared.hand.Kind.TheVariants.{Door}
use Rattle.fuse_line.specs.Seen.{Seen}
use Rattle.fuse_line.specs.declared.line.LineFull.{LineFull}
use Rattle.fuse_reply.specs.Sizes.{inline_size}
use Rattle.fuse_reply.specs.Queueing.{with_parcel, FoundFull}
use Rattle.fuse_reply.specs.declared.parcel.Parcel.{Parcel}
use Rattle.fuse_reply.specs.declared.parcel.Parcel.TheVariants.{Notice as Told}
use Rattle.fuse_reply.specs.Notice.{Notice, FitsFrame, IsTooBig, notice, notice_payload}
use Rattle.fuse_notify.specs.Making.{Makes}
use Rattle.fuse_notify.specs.declared.notice.NoticeError.{NoticeError}
use Rattle.fuse_notify.specs.declared.notifier.NotifyError.{NotifyError}
use Rattle.fuse_notify.specs.declared.notifier.NotifyError.TheVariants.{TooBig, Full, Memory}

-- the frame of a notice was pushed, or else nothing was, since the line was full
abbrev pub Pushes : Result (Unit {0}) LineFull → (frame : List ℕ) (before after : Seen Parcel) → Type 0
Pushes (Ok done) frame before after = after ≡ with_parcel before (Told frame)
Pushes (Err full) frame before after = (after ≡ before) × FoundFull before

-- Just this notice was queued, behind all that this door queued before. Or else nothing was: no frame can carry it, there was no
-- memory for a payload that is not held inline, or its own push found the line full.
abbrev pub Queues : Result (Unit {0}) NotifyError → Notice → (before after : Seen Parcel) → Type 0
Queues (Ok done) n before after = (after ≡ with_parcel before (Told (notice n))) × FitsFrame n
Queues (Err TooBig) n before after = (after ≡ before) × IsTooBig n
Queues (Err Memory) n before after = (after ≡ before) × FitsFrame n × (inline_size < length (notice_payload n))
Queues (Err (Full seen)) n before after = (after ≡ before) × FitsFrame n × FoundFull before

-- whichever notice was made is queued
abbrev pub QueuesMade : (made : Result (List ℕ) NoticeError) → Result (Unit {0}) NotifyError → (before after : Seen Parcel) → Type 0
QueuesMade made result before after = (n : Notice) → Makes made n → Queues result n before after

-- a door that has pushed nothing yet
abbrev pub fresh_door : TableId → Seen Parcel
fresh_door line = record { line = line; hand = hand Door 0 [] [] }

-- what a poll is answered through: the handle, and a door for its notice alone
pub record PollSeen : Type 0 where
  pub handle : ℕ
  pub door : Seen Parcel
