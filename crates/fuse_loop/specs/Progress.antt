-- How far a session is, and what a stretch of it takes from the source, hands to the sink and counts.
use Rattle.std.specs.Prelude.{◌≡◌, ◌⊎◌, ◌≤◌, ◌<◌, ◌+◌, ◌++◌, ℕ, Bool, true, false, not, List, [], ◌∷◌, IfSome, map, length, min, filter}
use Rattle.std.specs.List.{AllByRecursion}
use Rattle.fuse_wire.specs.Faults.{counted, last_count}
use Rattle.fuse_wire.specs.Source.{SourceState, Takes, TakesMessage, NothingLeft, SourceFailed}
use Rattle.fuse_wire.specs.Sink.{SinkState, Note, Appends, Sends}
use Rattle.fuse_wire.specs.declared.sink.Sending.{Sending}
use Rattle.fuse_reply.specs.Deliver.{Delivers, LeavesTail, NoNotice}
use Rattle.fuse_reply.specs.Frame.{is_set_aside}
use Rattle.fuse_reply.specs.Notice.{Notice, IsNotice, IsNoticeFrame, notice}
use Rattle.fuse_reply.specs.declared.out.Out.{Out}
use Rattle.fuse_reply.specs.declared.out.Out.TheVariants.{Frame, Note as Noting, Deferred}
use Rattle.fuse_reply.specs.declared.parcel.Parcel.{Parcel}
use Rattle.fuse_reply.specs.declared.parcel.Parcel.TheVariants.{Prompt, Notice as Notices, Late}
use Rattle.fuse_reply.specs.declared.out.OutEnd.{OutEnd}
use Rattle.fuse_reply.specs.declared.out.OutEnd.TheVariants.{Written, Noted, Lost, Marked}
use Rattle.fuse_loop.specs.declared.transcript.Transcript.{Transcript}
use Rattle.fuse_loop.specs.declared.taken.Taken.{Taken}
use Rattle.fuse_loop.specs.declared.taken.Taken.TheVariants.{Message, Gone, Failed}

-- what the source and the sink of a session tell, its counts, and the notices that were taken off its frame line
pub record Progress : Type 0 where
  pub source : SourceState
  pub sink : SinkState
  pub counts : Transcript
  pub unasked : List (List ℕ)

-- what a contract sees of the end that messages come in by: what the source tells, the receive buffer, and the messages counted
pub record IntakeState : Type 0 where
  pub source : SourceState
  pub buffer : List ℕ
  pub received : ℕ

-- what a contract sees of the end that frames go out by: what the sink tells, and the counts
pub record OutletState : Type 0 where
  pub sink : SinkState
  pub counts : Transcript

-- what a contract sees of a channel: how far the session is, and the receive buffer
pub record ChannelState : Type 0 where
  pub progress : Progress
  pub buffer : List ℕ

abbrev pub nothing_yet : Transcript
nothing_yet = record { received = 0; frames = 0; notes = 0; lost = 0; unrecorded = 0 }

abbrev pub progress : SourceState → SinkState → Transcript → (unasked : List (List ℕ)) → Progress
progress source sink counts unasked = record { source = source; sink = sink; counts = counts; unasked = unasked }

-- the same, with these notices taken off the line
abbrev pub beside : Progress → (unasked : List (List ℕ)) → Progress
beside p unasked = record p { unasked = unasked }

-- the counts, but for what could not be recorded
abbrev pub but_unrecorded : Transcript → Transcript
but_unrecorded t = record t { unrecorded = 0 }

-- what was done, and then more
abbrev pub added : Transcript → Transcript → Transcript
added a b = record {
  received = counted a.received b.received;
  frames = counted a.frames b.frames;
  notes = counted a.notes b.notes;
  lost = counted a.lost b.lost;
  unrecorded = counted a.unrecorded b.unrecorded;
}

-- the turns that there were, where the source tells them, begin with these
abbrev pub Begins : List (List ℕ) → SourceState → Type 0
Begins turns s = IfSome s.turns (λ all. (rest : List (List ℕ)) × (all ≡ turns ++ rest))

-- nothing was handed to the sink
pub record SinkUntouched (before after : Progress) : Type 0 where
  pub sink : after.sink ≡ before.sink
  pub counts : after.counts ≡ before.counts
  pub unasked : after.unasked ≡ before.unasked

-- a message was taken and counted; or none was left; or the source failed
abbrev pub TakesIn : Taken → (before after : IntakeState) → Type 0
TakesIn (Message n) before after = TakesMessage n before.source after.source after.buffer × (after.received ≡ counted before.received 1)
TakesIn Gone before after = Takes [] before.source after.source × NothingLeft after.source × (after.received ≡ before.received)
TakesIn Failed before after = SourceFailed before.source after.source × (after.received ≡ before.received)

-- the same of a channel, whose sink and counts stay as they are
abbrev pub TakesNext : Taken → (before after : ChannelState) → Type 0
TakesNext (Message n) before after =
    TakesMessage n before.progress.source after.progress.source after.buffer
    × (after.progress.sink ≡ before.progress.sink)
    × (after.progress.counts ≡ record before.progress.counts { received = counted before.progress.counts.received 1 })
    × (after.progress.unasked ≡ before.progress.unasked)
TakesNext Gone before after =
    Takes [] before.progress.source after.progress.source × NothingLeft after.progress.source
    × SinkUntouched before.progress after.progress
TakesNext Failed before after =
    SourceFailed before.progress.source after.progress.source × SinkUntouched before.progress after.progress

-- one more of what an end says
abbrev pub counting : OutEnd → Transcript → Transcript
counting Written t = record t { frames = counted t.frames 1 }
counting Noted t = record t { notes = counted t.notes 1 }
counting Lost t = record t { lost = counted t.lost 1 }
counting Marked t = t

-- it goes out at once
abbrev pub IsPrompt : Out → Type 0
IsPrompt (Frame f) = Unit {0}
IsPrompt (Noting id mark) = Unit {0}
IsPrompt (Deferred seq id) = ⊥

-- something was handed to the sink once, and what became of it was counted
pub record SendsOnce (out : Out) (before after : OutletState) : Type 0 where
  pub end : OutEnd
  pub delivered : Delivers end out before.sink after.sink
  pub counts : after.counts ≡ counting end before.counts
  pub reply : NoNotice out

-- the frame of a notice was handed to the sink once, and is counted nowhere
pub record SendsNotice (frame : List ℕ) (before after : OutletState) : Type 0 where
  pub sending : Sending
  pub sent : Sends sending frame before.sink after.sink
  pub aside : is_set_aside frame ≡ true
  pub in_range : IsNoticeFrame frame
  pub counts : after.counts ≡ before.counts

-- one parcel of a run in which no reply comes later: a late frame is none of this run, and is dropped
abbrev pub PassesOnParcel : Parcel → (before after : OutletState) → Type 0
PassesOnParcel (Prompt seq out) before after = SendsOnce out before after
PassesOnParcel (Notices frame) before after = SendsNotice frame before after
PassesOnParcel (Late late) before after = after ≡ before

-- the same of a channel, whose source stays as it is
pub record DeliversOnce (out : Out) (before after : ChannelState) : Type 0 where
  pub end : OutEnd
  pub delivered : Delivers end out before.progress.sink after.progress.sink
  pub counts : after.progress.counts ≡ counting end before.progress.counts
  pub source : after.progress.source ≡ before.progress.source
  pub unasked : after.progress.unasked ≡ before.progress.unasked
  pub reply : NoNotice out

-- each of the items, in order, is the first that is left out or the first that is kept
abbrev pub LeavesOut : {A : Type 0} → (out items kept : List A) → Type 0
LeavesOut out [] kept = (kept ≡ []) × (out ≡ [])
LeavesOut {A} out (x ∷ xs) kept =
    ((rest : List A) × (kept ≡ x ∷ rest) × LeavesOut out xs rest)
    ⊎ ((rest : List A) × (out ≡ x ∷ rest) × LeavesOut rest xs kept)

-- the frames that are notices
abbrev pub notices : List (List ℕ) → List (List ℕ)
notices frames = filter is_set_aside frames

-- it is a notice
abbrev pub is_notice : Out → Bool
is_notice (Frame f) = is_set_aside f
is_notice (Noting id mark) = false
is_notice (Deferred seq id) = false

-- the frames that are replies
abbrev pub replies : List (List ℕ) → List (List ℕ)
replies frames = filter (λ f. not (is_set_aside f)) frames

-- a frame that is set aside is a notice
abbrev pub NoticeOrReply : List ℕ → Type 0
NoticeOrReply f = is_set_aside f ≡ true → (n : Notice) × IsNotice n × (f ≡ notice n)

-- Of the notices that were taken off the line, in order, each was appended or refused; and no other notice was.
pub record PassesOn (appended : List (List ℕ)) (refused : List Out) (before after : List (List ℕ)) : Type 0 where
  pub taken : List (List ℕ)
  pub dropped : List (List ℕ)
  pub line : after ≡ before ++ taken
  pub each : LeavesOut dropped taken (notices appended)
  pub all_dropped : filter is_notice refused ≡ map Frame dropped

-- the counts of a session that took so many messages, and sent and lost so many reply frames and notes
abbrev pub tally : (received frames notes lost : ℕ) → Transcript
tally received frames notes lost = record {
  received = min received last_count;
  frames = min frames last_count;
  notes = min notes last_count;
  lost = min lost last_count;
  unrecorded = 0;
}

-- So many messages were counted; these reply frames, with notices among them, and these notes were appended; and these were lost,
-- with notices among them too. The sink counted all that it refused. Of what could not be recorded nothing is said here.
pub record Moves (received : ℕ) (frames : List (List ℕ)) (notes : List Note) (lost : List Out) (before after : Progress) : Type 0 where
  pub appended : List (List ℕ)
  pub refused : List Out
  pub written : Appends appended notes before.sink after.sink
  pub replied : replies appended ≡ frames
  pub missed : filter (λ out. not (is_notice out)) refused ≡ lost
  pub set_aside : AllByRecursion NoticeOrReply appended
  pub passed_on : PassesOn appended refused before.unasked after.unasked
  pub tail : LeavesTail refused before.sink.tail after.sink.tail
  pub cause : after.sink.faults < last_count → length refused + before.sink.faults ≤ after.sink.faults
  pub counts : (r f n l : ℕ) → but_unrecorded before.counts ≡ tally r f n l
      → but_unrecorded after.counts ≡ tally (r + received) (f + length frames) (n + length notes) (l + length lost)

-- notices were taken off the line and handed to the sink, and nothing else
pub record NoticesAlone (before after : Progress) : Type 0 where
  pub moved : Moves 0 [] [] [] before after
  pub source : after.source ≡ before.source

-- the sink's count did not rise, and does not stand at its last value
pub record Quiet (sink sink' : SinkState) : Type 0 where
  pub same : sink'.faults ≡ sink.faults
  pub counts : sink'.faults < last_count

-- the frames that were set aside are the notices that were taken off the line, in order
pub record PassesOnAll (before after : Progress) : Type 0 where
  pub appended : List (List ℕ)
  pub notes : List Note
  pub written : Appends appended notes before.sink after.sink
  pub line : after.unasked ≡ before.unasked ++ notices appended
