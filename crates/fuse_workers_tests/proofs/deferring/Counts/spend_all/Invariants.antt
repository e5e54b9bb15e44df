use Rattle.fuse_workers_tests.proofs.deferring.Counts.spend_all.Given as goal

-- a token less each time
abbrev pub decreases-loop-later : goal.decreases-loop-later
decreases-loop-later g l = l.tokens.len
