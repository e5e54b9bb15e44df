-- What a status says.
use Rattle.std.proofs.Common.{◌≡◌, ◌<◌, ◌⊎◌, ℕ, zero, suc, Bool, true, false, refl, sym, ap, ◌∙◌, Ok, Err, nat_lt, arith, cond, inl}
use Rattle.std.proofs.Common.{inr, min, lt-ltb}
use Rattle.std.proofs.lemmas.Bool.Decides.{nat_tests}
use Rattle.std.specs.Prelude.{◌||◌}
use Rattle.fuse_wire.specs.Faults.{last_count}
use Rattle.fuse_session.specs.SessionEnd.{Outcome}
use Rattle.fuse_session.specs.declared.error.SessionError.{SessionError}
use Rattle.fuse_session.specs.declared.error.SessionError.TheVariants.{Conflict, AutoUnmount, CloneFd, Memory}
use Rattle.fuse_session.specs.declared.error.SessionError.TheVariants.{NotConnected, InvalidData, Unsupported, Init, Threads, Receive}
use Rattle.fuse_session.specs.Refused.{Untouched}
use Rattle.fuse_program.specs.Status.{status, failure_status}

-- no failure has the status 0
failure-some : (e : SessionError) → failure_status e ≡ 0 → ⊥
failure-some (Conflict i j) h = omega arith
failure-some AutoUnmount h = omega arith
failure-some CloneFd h = omega arith
failure-some Memory h = omega arith
failure-some NotConnected h = omega arith
failure-some (InvalidData d) h = omega arith
failure-some (Unsupported v) h = omega arith
failure-some (Init e) h = omega arith
failure-some Threads h = omega arith
failure-some Receive h = omega arith

-- the status of an outcome that is Ok
abbrev ok-status : Bool → ℕ
ok-status worse = cond worse 8 0

neither : (first second : Bool) → ok-status (first || second) ≡ 0 → (first ≡ false) × (second ≡ false)
neither true second h = absurd (omega arith)
neither false true h = absurd (omega arith)
neither false false h = (refl, refl)

lost-none : (lost : ℕ) → nat_lt 0 lost ≡ false → lost ≡ 0
lost-none lost h = grind (arith, nat_tests)

-- the status 0 comes only where the outcome was Ok and nothing was lost
pub zero-status : (outcome : Outcome) (lost : ℕ) (broken : Bool) → status outcome lost broken ≡ 0
    → (outcome ≡ Ok tt) × (lost ≡ 0) × (broken ≡ false)
zero-status (Ok u) lost broken h = let none = neither (nat_lt 0 lost) broken h in (refl, lost-none lost none.0, none.1)
zero-status (Err e) lost broken h = absurd (failure-some e h)

-- no failure has the status 8
failure-eight : (e : SessionError) → failure_status e ≡ 8 → ⊥
failure-eight (Conflict i j) h = omega arith
failure-eight AutoUnmount h = omega arith
failure-eight CloneFd h = omega arith
failure-eight Memory h = omega arith
failure-eight NotConnected h = omega arith
failure-eight (InvalidData d) h = omega arith
failure-eight (Unsupported v) h = omega arith
failure-eight (Init e) h = omega arith
failure-eight Threads h = omega arith
failure-eight Receive h = omega arith

-- the status 8 comes only where something was lost or a write failed
pub eight-status : (outcome : Outcome) (lost : ℕ) (broken : Bool) → status outcome lost broken ≡ 8 → (0 < lost) ⊎ (broken ≡ true)
eight-status (Err e) lost broken h = absurd (failure-eight e h)
eight-status (Ok u) (suc less) broken h = inl (omega arith)
eight-status (Ok u) zero true h = inr refl
eight-status (Ok u) zero false h = absurd (omega arith)

-- where nothing was taken the status is 9
pub nine-untouched : (outcome : Outcome) (lost : ℕ) (broken : Bool) → Untouched outcome → status outcome lost broken ≡ 9
nine-untouched (Ok u) lost broken none = absurd none
nine-untouched (Err (Conflict i j)) lost broken none = refl
nine-untouched (Err AutoUnmount) lost broken none = refl
nine-untouched (Err CloneFd) lost broken none = refl
nine-untouched (Err Memory) lost broken none = refl
nine-untouched (Err _) lost broken none = absurd none

ok-only : (worse : Bool) → (ok-status worse ≡ 0) ⊎ (ok-status worse ≡ 8)
ok-only true = inr refl
ok-only false = inl refl

-- the outcome Ok has no status but these
pub ok-statuses : (lost : ℕ) (broken : Bool) → (status (Ok tt) lost broken ≡ 0) ⊎ (status (Ok tt) lost broken ≡ 8)
ok-statuses lost broken = ok-only (nat_lt 0 lost || broken)

-- a count that stays at its last value gives the same status
pub status-counted : (outcome : Outcome) (lost : ℕ) (broken : Bool) → status outcome (min lost last_count) broken ≡ status outcome lost broken
status-counted (Err e) lost broken = refl
status-counted (Ok u) zero broken = refl
status-counted (Ok u) (suc less) broken =
    ap (λ (some : Bool). ok-status (some || broken))
    (lt-ltb 0 (min (suc less) last_count) (omega arith) ∙ sym (lt-ltb 0 (suc less) (omega arith)))
