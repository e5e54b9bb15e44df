-- What a worker's promise is about, and what the caller has.
use Rattle.std.specs.Prelude.{◌≡◌}
use Rattle.atomic_table.specs.Seated.{TableId}
use Rattle.fuse_reply.specs.EndMark.{EndMarkSeen}
use Rattle.fuse_loop.specs.Lines.{LinesState}
use Rattle.fuse_workers.specs.declared.caller.Caller.{Caller}
use Rattle.fuse_workers.specs.declared.threads.WorkerPromise.{WorkerPromise}

-- this work, this line of jobs and this line of frames
abbrev pub PromisesFor : {W : Type 0} → W → (jobs frames : TableId) → WorkerPromise W → Type 0
PromisesFor work jobs frames promise = (promise.work.value ≡ work) × (promise.jobs.value ≡ jobs) × (promise.frames.value ≡ frames)

-- what a caller has of both lines, beside the mark of the run's end
abbrev pub lines_of : (end : EndMarkSeen) → Caller → LinesState
lines_of end caller = record { frames = caller.frames; jobs = caller.jobs; answerer = caller.answerer; end = end }
