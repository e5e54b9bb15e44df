-- A call for the lock is done, or fails as the promise says; one that waits may be put off.
use Rattle.std.proofs.Common.{refl, inl, inr, sym, subst, Bool, arith}
use Rattle.fuse_reply.specs.Answer.Answer.{Empty, Error}
use Rattle.fuse_dispatch.proofs.Answering.{Answered-error, Answered-frame}
use Rattle.fuse_wire.specs.ErrorNumbers.{EAGAIN, EDEADLK, ENOLCK}
use Rattle.locks.specs.OneLock.{MayFail}
use Rattle.locks.proofs.Waiting.{Answers-waiting}
use Rattle.locks.proofs.one_lock.OneLockFilesystem.setlk.Goals as goal

pub returns-then-typ-eq-UNLOCKED : goal.returns-then-typ-eq-UNLOCKED
returns-then-typ-eq-UNLOCKED g c = Answered-frame Empty tt tt (inl refl) c.ok.ensures

pub returns-then-sleep : goal.returns-then-sleep
returns-then-sleep g c =
    Answers-waiting tt (inl refl)
    (inr (subst (λ (sleep : Bool). MayFail sleep (Error EDEADLK)) (sym c.if-sleep.true) (inl refl)))
    (inr (subst (λ (sleep : Bool). MayFail sleep (Error ENOLCK)) (sym c.if-sleep.true) (inr (inl refl))))
    c.wait_for.ensures

pub returns-then-takes : goal.returns-then-takes
returns-then-takes g c = Answered-frame Empty tt tt (inl refl) c.ok-then-takes.ensures

pub returns-else-takes : goal.returns-else-takes
returns-else-takes g c =
    Answered-error EAGAIN (omega arith) (omega arith)
    (inr (subst (λ (sleep : Bool). MayFail sleep (Error EAGAIN)) (sym c.if-sleep.false) refl))
    c.error.ensures.reply
