-- The exit status of a session's outcome.
use Rattle.std.specs.Prelude.{◌≡◌, ◌⊎◌, ℕ, Bool, Result, Ok, Err, nat_lt, ◌||◌, if◌then◌else◌}
use Rattle.fuse_session.specs.declared.error.SessionError.{SessionError}
use Rattle.fuse_session.specs.declared.error.SessionError.TheVariants.{Conflict, AutoUnmount, CloneFd, Memory}
use Rattle.fuse_session.specs.declared.error.SessionError.TheVariants.{NotConnected, InvalidData, Unsupported, Init, Threads, Receive}

-- the program lists no options, so that they are never refused; nothing would be read or written either
abbrev pub failure_status : SessionError → ℕ
failure_status (Conflict first second) = 9
failure_status AutoUnmount = 9
failure_status CloneFd = 9
failure_status Memory = 9
failure_status NotConnected = 3
failure_status (InvalidData d) = 4
failure_status (Unsupported v) = 5
failure_status (Init e) = 4
failure_status Threads = 10
failure_status Receive = 7

-- 0 where all went well and nothing was lost, 8 where something was, and else the number of the error
abbrev pub status : Result (Unit {0}) SessionError → (lost : ℕ) → (broken : Bool) → ℕ
status (Ok u) lost broken = if nat_lt 0 lost || broken then 8 else 0
status (Err e) lost broken = failure_status e

abbrev pub IsStatus : ℕ → Result (Unit {0}) SessionError → (lost : ℕ) → (broken : Bool) → Type 0
IsStatus n outcome lost broken = n ≡ status outcome lost broken

-- the statuses of a session
abbrev pub IsSessionStatus : ℕ → Type 0
IsSessionStatus n = (n ≡ 0) ⊎ (n ≡ 3) ⊎ (n ≡ 4) ⊎ (n ≡ 5) ⊎ (n ≡ 7) ⊎ (n ≡ 8) ⊎ (n ≡ 9) ⊎ (n ≡ 10)

-- the statuses of the program
abbrev pub IsExit : ℕ → Type 0
IsExit n = (n ≡ 2) ⊎ IsSessionStatus n

-- the statuses of `gen`: all was written, or a write failed
abbrev pub IsGenStatus : ℕ → Type 0
IsGenStatus n = (n ≡ 0) ⊎ (n ≡ 8)

-- the statuses of `load` on so many threads: the line was written, a write failed, there was no memory, or no thread was to serve
abbrev pub IsLoadStatus : (threads n : ℕ) → Type 0
IsLoadStatus threads n = (n ≡ 0) ⊎ (n ≡ 8) ⊎ (n ≡ 9) ⊎ ((n ≡ 10) × (threads ≡ 0))
