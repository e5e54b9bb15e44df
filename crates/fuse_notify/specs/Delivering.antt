-- What comes of sending a notice at once.
use Rattle.std.specs.Prelude.{◌≡◌, ◌⊎◌, ℕ, List, Bool, true, false, pos, Result, Ok, Err}
use Rattle.fuse_wire.specs.Sink.{SinkState, Sends}
use Rattle.fuse_wire.specs.declared.sink.Sending.{Sending}
use Rattle.fuse_wire.specs.declared.sink.Sending.TheVariants.{Sent, Absent, Failed}
use Rattle.fuse_reply.specs.Frame.{frame_status}
use Rattle.fuse_reply.specs.Notice.{FUSE_NOTIFY_POLL}
use Rattle.fuse_notify.specs.declared.delivery.Undelivered.{Undelivered}
use Rattle.fuse_notify.specs.declared.delivery.Undelivered.TheVariants.{Absent as NotThere, Failed as Refused}

-- the notice of a poll
abbrev pub IsPollNotice : List ℕ → Type 0
IsPollNotice frame = frame_status frame ≡ pos FUSE_NOTIFY_POLL

-- what a sink's answer comes to: where the kernel has nothing of what a notice speaks of, that is an error for a poll alone
abbrev pub outcome_of : Sending → (of_poll : Bool) → Result (Unit {0}) Undelivered
outcome_of Sent of_poll = Ok tt
outcome_of Absent true = Err NotThere
outcome_of Absent false = Ok tt
outcome_of Failed of_poll = Err Refused

-- It was sent; or the kernel had nothing of it; or the device failed.
abbrev pub DeliversNotice : Result (Unit {0}) Undelivered → List ℕ → SinkState → SinkState → Type 0
DeliversNotice (Ok done) frame before after = Sends Sent frame before after ⊎ ((IsPollNotice frame → ⊥) × Sends Absent frame before after)
DeliversNotice (Err NotThere) frame before after = IsPollNotice frame × Sends Absent frame before after
DeliversNotice (Err Refused) frame before after = Sends Failed frame before after
