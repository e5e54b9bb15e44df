-- The caller's lines.
use Rattle.std.specs.Prelude.{◌≡◌}
use Rattle.atomic_table.specs.Seated.{TableId}
use Rattle.fuse_workers.specs.declared.caller.Caller.{Caller}

-- the caller's passes are on this line of jobs and on this line of frames, and it answers with doors to that line of frames
abbrev pub CallerOn : (jobs frames : TableId) → Caller → Type 0
CallerOn jobs frames caller = (caller.jobs.line ≡ jobs) × (caller.frames.line ≡ frames) × (caller.answerer.notifier.line ≡ frames)
