-- What is counted of the starts of sessions.
use Rattle.std.specs.Prelude.{◌≡◌, ℕ, List, true, false, Result, Ok, Err}
use Rattle.fuse_wire.specs.Calls.{is_listed, next_call}
use Rattle.fuse_wire.specs.Faults.{counted}

-- what is seen of the starts of a spawner: which are listed to be refused, how many there were, and how many of these were refused
pub record StartsSeen : Type 0 where
  pub listed : List ℕ
  pub starts : ℕ
  pub refused : ℕ

-- the count of refusals after a start: what it was, or one more where that was refused, up to the last count there is
abbrev pub CountsRefusal : {T E : Type 0} → Result T E → (before after : ℕ) → Type 0
CountsRefusal (Ok running) before after = after ≡ before
CountsRefusal (Err back) before after = after ≡ counted before 1

-- one start more where each session is run at once: it is refused exactly where it is listed
abbrev pub StartsInline : {T E : Type 0} → Result T E → (before after : StartsSeen) → Type 0
StartsInline (Ok running) before after =
    (is_listed before.listed before.starts ≡ false)
    × (after ≡ record { listed = before.listed; starts = next_call before.starts; refused = before.refused })
StartsInline (Err back) before after =
    (is_listed before.listed before.starts ≡ true)
    × (after ≡ record { listed = before.listed; starts = next_call before.starts; refused = counted before.refused 1 })

-- one start more where a thread is started for each session: none that is listed is started
abbrev pub StartsThread : {T E : Type 0} → Result T E → (before after : StartsSeen) → Type 0
StartsThread (Ok running) before after =
    (is_listed before.listed before.starts ≡ false)
    × (after ≡ record { listed = before.listed; starts = next_call before.starts; refused = before.refused })
StartsThread (Err back) before after =
    after ≡ record { listed = before.listed; starts = next_call before.starts; refused = counted before.refused 1 }
