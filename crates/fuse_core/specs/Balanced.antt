-- Each message that was received is in one place, and each late frame that was sent has a mark.
use Rattle.std.specs.Prelude.{◌≡◌, ◌+◌, ◌==◌, ℕ, if◌then◌else◌, length, nat_lt, map}
use Rattle.std.specs.List.{All, sum_by}
use Rattle.fuse_reply.specs.declared.out.Out.{Out}
use Rattle.fuse_reply.specs.declared.out.Out.TheVariants.{Frame, Note, Deferred}
use Rattle.fuse_reply.specs.declared.parcel.Parcel.{Parcel}
use Rattle.fuse_reply.specs.declared.parcel.Parcel.TheVariants.{Prompt, Notice, Late}
use Rattle.fuse_core.specs.Marks.{late_tag, tag_of}
use Rattle.fuse_core.specs.AreMatched.{AreMatched}
use Rattle.fuse_core.specs.declared.state.WorkerHand.{WorkerHand}
use Rattle.fuse_core.specs.declared.state.WorkerHand.TheVariants.{Empty, Asked, Answered}
use Rattle.fuse_core.specs.declared.state.State.{State}

-- once where the number is that one, and else not at all
abbrev pub once_if : (number seq : ℕ) → ℕ
once_if number seq = if number == seq then 1 else 0

-- how often a number stands in a hand
abbrev pub in_hand : (number : ℕ) → WorkerHand → ℕ
in_hand number Empty = 0
in_hand number (Asked job) = once_if number job.seq
in_hand number (Answered seq out) = once_if number seq

-- how often a number stands on a parcel
abbrev pub on_parcel : (number : ℕ) → Parcel → ℕ
on_parcel number (Prompt seq out) = once_if number seq
on_parcel number (Late late) = 0
on_parcel number (Notice f) = 0

-- how often a number stands among what was sent and what comes later
abbrev pub settled : (number : ℕ) → State → ℕ
settled number s = sum_by (λ o. once_if number o.seq) s.sent + sum_by (λ m. once_if number m.seq) s.marks

-- how often a number stands in a state
abbrev pub stands : (number : ℕ) → State → ℕ
stands number s =
    sum_by (λ j. once_if number j.seq) s.jobs + sum_by (in_hand number) s.hands + sum_by (on_parcel number) s.line + settled number s

-- a mark has the number of the message that it stands for
abbrev pub KeepsNumber : (seq : ℕ) → Out → Type 0
KeepsNumber seq (Deferred number id) = number ≡ seq
KeepsNumber seq (Frame f) = Unit {0}
KeepsNumber seq (Note id mark) = Unit {0}

abbrev pub HandKeepsNumber : WorkerHand → Type 0
HandKeepsNumber Empty = Unit {0}
HandKeepsNumber (Asked job) = Unit {0}
HandKeepsNumber (Answered seq out) = KeepsNumber seq out

abbrev pub ParcelKeepsNumber : Parcel → Type 0
ParcelKeepsNumber (Prompt seq out) = KeepsNumber seq out
ParcelKeepsNumber (Late late) = Unit {0}
ParcelKeepsNumber (Notice f) = Unit {0}

-- The numbers below the count of the messages received are, each once, those of jobs, hands, prompts on the line, what was sent and
-- what comes later; and there is no other number. Each mark in a hand or on the line has its prompt's number. The late frames that were
-- sent go to different marks.
pub record Balanced (s : State) : Type 0 where
  pub each_once : (number : ℕ) → stands number s ≡ (if nat_lt number (length s.received) then 1 else 0)
  pub hands : All HandKeepsNumber s.hands
  pub line : All ParcelKeepsNumber s.line
  pub matched : AreMatched (map tag_of s.marks) (map late_tag s.late)
