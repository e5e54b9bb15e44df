use Rattle.fuse_later_tests.proofs.interrupting.Interrupting.close.Given as goal

-- a token less each time
abbrev pub decreases-loop-later : goal.decreases-loop-later
decreases-loop-later g l = l.tokens.len
