use Rattle.std.proofs.Common.{◌≡◌}
use Rattle.fuse_wire.specs.Source.{SourceState}
use Rattle.fuse_loop.specs.Lines.{notices_in}
use Rattle.fuse_loop.specs.Progress.{NoticesAlone, progress}
use Rattle.fuse_loop.specs.declared.transcript.Transcript.{Transcript}
use Rattle.fuse_loop.proofs.outlet.Outlet.send_notices.Given as goal

-- nothing but notices was sent so far
abbrev pub invariant-loop : goal.invariant-loop
invariant-loop g l =
    ((source : SourceState) (counts : Transcript) → NoticesAlone (progress source l.fn.self.sink counts (notices_in l.fn.frames.hand.taken))
    (progress source l.self.sink counts (notices_in l.frames.hand.taken)))
    × (l.self.counts ≡ l.fn.self.counts) × (l.frames.line ≡ l.fn.frames.line)
