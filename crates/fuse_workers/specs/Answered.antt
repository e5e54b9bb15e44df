-- What the threads know of the line of jobs and of the line of frames, by what their passes pushed and took: that a worker answered
-- each job that it took, and that each message was pushed as a job or answered by the caller itself.
use Rattle.std.specs.Prelude.{◌≡◌, ◌++◌, ℕ, List, [], map}
use Rattle.std.specs.List.Sorted.{IsPermutation}
use Rattle.fuse_line.specs.declared.hand.Hand.{Hand}
use Rattle.fuse_line.specs.declared.hand.Kind.TheVariants.{First, Inner}
use Rattle.fuse_reply.specs.declared.parcel.Parcel.{Parcel}
use Rattle.fuse_reply.specs.declared.parcel.Parcel.TheVariants.{Prompt, Notice, Late}
use Rattle.fuse_core.specs.declared.state.Job.{Job}
use Rattle.fuse_core.specs.OnePerMessage.{Owing}
use Rattle.fuse_workers.specs.Pairing.{InTurn, Pairs, numbered}

-- a job's number and message
abbrev pub pair_of : Job → ℕ × List ℕ
pair_of job = (job.seq, job.message)

-- a prompt of that number with what is owed to that message; a notice answers nothing, nor does a frame that comes later
abbrev pub PromptAnswers : Owing → ℕ × List ℕ → Parcel → Type 0
PromptAnswers owed asked (Prompt seq out) = (seq ≡ asked.0) × owed asked.0 asked.1 out
PromptAnswers owed asked (Notice frame) = ⊥
PromptAnswers owed asked (Late frame) = ⊥

-- a worker's passes: the prompts that it pushed answer, in turn, the jobs that it took, and it pushed nothing else
pub record IsServed (owed : Owing) (jobs : Hand Job) (frames : Hand Parcel) : Type 0 where
  pub job_kind : jobs.kind ≡ Inner
  pub frame_kind : frames.kind ≡ Inner
  pub no_put : jobs.put ≡ []
  pub no_taken : frames.taken ≡ []
  pub each : InTurn (PromptAnswers owed) (map pair_of jobs.taken) frames.put

-- the caller's passes, with those that were joined into them: each message was pushed as a job or answered directly, and one prompt
-- was pushed for each job that was taken and for each message answered so, and nothing else
pub record IsCaller (owed : Owing) (messages : List (List ℕ)) (jobs : Hand Job) (frames : Hand Parcel) : Type 0 where
  pub job_kind : jobs.kind ≡ First
  pub frame_kind : frames.kind ≡ First
  pub no_taken : frames.taken ≡ []
  pub direct : List (ℕ × List ℕ)
  pub all : IsPermutation (numbered 0 messages) (map pair_of jobs.put ++ direct)
  pub each : Pairs (PromptAnswers owed) (map pair_of jobs.taken ++ direct) frames.put
