-- The lines of a run: messages on their way to workers, and frames on their way to the sink.
use Rattle.std.specs.Prelude.{◌≡◌, ◌-◌, ◌^◌, ℕ, Bool, List, [], ◌∷◌, None, Some, filter, flat_map, min}
use Rattle.std.specs.List.Sorted.{IsPermutation}
use Rattle.atomic_table.specs.Seated.{TableId}
use Rattle.fuse_line.specs.Hand.{hand}
use Rattle.fuse_line.specs.Seen.{Seen}
use Rattle.fuse_line.specs.declared.hand.Kind.TheVariants.{First}
use Rattle.fuse_notify.specs.Queueing.{fresh_door}
use Rattle.fuse_reply.specs.EndMark.{EndMarkSeen, end_mark}
use Rattle.fuse_reply.specs.Late.{LateSeen}
use Rattle.fuse_reply.specs.Parcel.{is_prompt}
use Rattle.fuse_reply.specs.declared.parcel.Parcel.{Parcel}
use Rattle.fuse_reply.specs.declared.parcel.Parcel.TheVariants.{Prompt, Notice, Late}
use Rattle.fuse_core.specs.declared.state.Job.{Job}

-- the notices among these, in order
abbrev pub notice_in : Parcel → List (List ℕ)
notice_in (Notice frame) = frame ∷ []
notice_in (Prompt seq out) = []
notice_in (Late frame) = []

abbrev pub notices_in : List Parcel → List (List ℕ)
notices_in parcels = flat_map notice_in parcels

-- the late frames among these, in order
abbrev pub late_in : Parcel → List LateSeen
late_in (Late frame) = frame ∷ []
late_in (Prompt seq out) = []
late_in (Notice frame) = []

abbrev pub lates_in : List Parcel → List LateSeen
lates_in parcels = flat_map late_in parcels

-- the first pass of this line, which counts no other, and took each inner item that it pushed: whoever else pushes has a door, and no
-- inner item waits
pub record IsAlone {T : Type 0} (inner : T → Bool) (line : TableId) (pass : Seen T) : Type 0 where
  pub line_is : pass.line ≡ line
  pub first : pass.hand.kind ≡ First
  pub alone : pass.hand.others ≡ 0
  pub settled : IsPermutation (filter inner pass.hand.put) (filter inner pass.hand.taken)

-- what makes doors for the replies of a thread: a door to the line of frames, and a share of the mark of the run's end
pub record DoorsSeen : Type 0 where
  pub pass : Seen Parcel
  pub mark : EndMarkSeen

abbrev pub fresh_doors : (frames : TableId) → (end : TableId) → DoorsSeen
fresh_doors frames end = record { pass = fresh_door frames; mark = end_mark end None None }

-- what a contract sees of what a thread answers with: the door of its notifier, and what makes doors for its replies
pub record AnswererSeen : Type 0 where
  pub notifier : Seen Parcel
  pub doors : DoorsSeen

-- what a contract sees of both lines: their first passes, what the caller answers with, and the mark of the run's end
pub record LinesState : Type 0 where
  pub frames : Seen Parcel
  pub jobs : Seen Job
  pub answerer : AnswererSeen
  pub end : EndMarkSeen

-- the notices that were taken off the line of frames
abbrev pub unasked_of : LinesState → List (List ℕ)
unasked_of lines = notices_in lines.frames.hand.taken

-- the late frames that were
abbrev pub late_of : LinesState → List LateSeen
late_of lines = lates_in lines.frames.hand.taken

-- nothing was pushed or taken yet by a first pass, nor by the doors, which are to the line of frames; and the end is not marked
pub record IsUnused (lines : LinesState) : Type 0 where
  pub frames : lines.frames.hand ≡ hand First 0 [] []
  pub jobs : lines.jobs.hand ≡ hand First 0 [] []
  pub notifier : lines.answerer.notifier ≡ fresh_door lines.frames.line
  pub doors : lines.answerer.doors ≡ fresh_doors lines.frames.line lines.end.name
  pub unmarked : lines.end ≡ end_mark lines.end.name None None

-- the mark of an end, set to the number of messages that were taken, of which the last two values of a u64 count as one
abbrev pub ended_by : EndMarkSeen → (taken : ℕ) → EndMarkSeen
ended_by end taken = end_mark end.name end.known (Some (min taken (2 ^ 64 - 2)))

-- the passes are on this line of jobs and on this line of frames, and the notifier's door is one to that line of frames
abbrev pub IsOn : (jobs frames : TableId) → LinesState → Type 0
IsOn jobs frames lines = (lines.jobs.line ≡ jobs) × (lines.frames.line ≡ frames) × (lines.answerer.notifier.line ≡ frames)

-- each first pass counts no other, and took each job and each prompt that was pushed
pub record IsDrained (lines : LinesState) : Type 0 where
  pub frames_first : lines.frames.hand.kind ≡ First
  pub frames_alone : lines.frames.hand.others ≡ 0
  pub frames_settled : IsPermutation (filter is_prompt lines.frames.hand.put) (filter is_prompt lines.frames.hand.taken)
  pub jobs_first : lines.jobs.hand.kind ≡ First
  pub jobs_alone : lines.jobs.hand.others ≡ 0
  pub jobs_settled : IsPermutation lines.jobs.hand.put lines.jobs.hand.taken
