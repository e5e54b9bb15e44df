-- What came of a run on several threads, by what its passes pushed and took.
use Rattle.std.specs.Prelude.{◌≡◌, true, List}
use Rattle.fuse_line.specs.Tells.{IsSettled}
use Rattle.fuse_line.specs.declared.hand.Hand.{Hand}
use Rattle.fuse_line.specs.declared.hand.Kind.TheVariants.{First}
use Rattle.fuse_reply.specs.Parcel.{is_prompt}
use Rattle.fuse_reply.specs.declared.parcel.Parcel.{Parcel}
use Rattle.fuse_loop.specs.Lines.{lates_in, notices_in}
use Rattle.fuse_core.specs.OnePerMessage.{Owing}
use Rattle.fuse_loop.specs.Progress.{IntakeState}
use Rattle.fuse_workers.specs.HandingOn.{HandsOn}
use Rattle.fuse_workers.specs.Relays.{RelayState}
use Rattle.fuse_workers.specs.declared.stopped.Stopped.{Stopped}
use Rattle.fuse_core.specs.declared.state.Job.{Job}

-- Each first pass is alone, and took what was pushed; what the one of frames took was handed on, and so was what the caller gave out itself,
-- where there was no sender.
pub record Conducts (owed : Owing) (stopped : Stopped) (intake intake' : IntakeState) (relay relay' : RelayState)
    (jobs : Hand Job) (frames : Hand Parcel) : Type 0 where
  pub jobs_first : jobs.kind ≡ First
  pub jobs_alone : jobs.others ≡ 0
  pub jobs_settled : IsSettled (λ _. true) jobs
  pub frames_first : frames.kind ≡ First
  pub frames_alone : frames.others ≡ 0
  pub frames_settled : IsSettled is_prompt frames
  pub parcels : List Parcel
  pub hands_on : HandsOn owed stopped intake intake' relay relay' parcels
  pub same_notices : notices_in parcels ≡ notices_in frames.taken
  pub same_late : lates_in parcels ≡ lates_in frames.taken
