use Rattle.locks.proofs.one_lock.OneLock.close.Given as goal

-- a waiter less each time
abbrev pub decreases-loop-waiter : goal.decreases-loop-waiter
decreases-loop-waiter g l = l.waiting.len
