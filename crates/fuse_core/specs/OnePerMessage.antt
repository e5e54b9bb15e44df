-- One frame or note for each message: by places, so that two messages with one id need two frames. `owed` says what a message
-- is owed, by its number, and `broken` which messages have no good header.
use Rattle.std.specs.Prelude.{◌≡◌, ◌⊎◌, ℕ, suc, List, [], ◌∷◌, Some, length, slice_get, remove, min}
use Rattle.fuse_wire.specs.Sink.{Note as Noted}
use Rattle.fuse_wire.specs.Faults.{last_count}
use Rattle.fuse_reply.specs.declared.out.Out.{Out}
use Rattle.fuse_reply.specs.declared.out.Out.TheVariants.{Frame, Note, Deferred}

-- what a message is owed, by its number
abbrev pub Owing : Type 1
Owing = ℕ → List ℕ → Out → Type 0

-- the number of a message: its place from 0, up to the last value of a u64
abbrev pub number_of : ℕ → ℕ
number_of place = min place last_count

-- how messages, in order, are accounted for: by these frames, these notes, and what was lost
abbrev pub Accounting : Type 1
Accounting = (messages frames : List (List ℕ)) → List Noted → (lost : List Out) → Type 0

-- Each message from this place on, in order, is owed the first frame that is left, or the first note, or the first of what was lost.
abbrev pub InOrder : Owing → (place : ℕ) → Accounting
InOrder owed place [] frames notes lost = (frames ≡ []) × (notes ≡ []) × (lost ≡ [])
InOrder owed place (m ∷ ms) frames notes lost =
    ((f : List ℕ) × (rest : List (List ℕ)) × (frames ≡ f ∷ rest) × owed (number_of place) m (Frame f)
    × InOrder owed (suc place) ms rest notes lost)
    ⊎ ((n : Noted) × (rest : List Noted) × (notes ≡ n ∷ rest) × owed (number_of place) m (Note (record { 0 = n.0 }) n.1)
    × InOrder owed (suc place) ms frames rest lost)
    ⊎ ((out : Out) × (rest : List Out) × (lost ≡ out ∷ rest) × owed (number_of place) m out
    × InOrder owed (suc place) ms frames notes rest)

-- The same with some place for the first one, with marks of replies that come later, a number and an id each, and with a count of
-- the lost.
abbrev pub OnePerMessage : Owing → (List ℕ → Type 0) → (place : ℕ) → (messages frames : List (List ℕ)) → (notes marks : List Noted) → (lost : ℕ) → Type 0
OnePerMessage owed broken place [] frames notes marks lost = (frames ≡ []) × (notes ≡ []) × (marks ≡ []) × (lost ≡ 0)
OnePerMessage owed broken place (m ∷ ms) frames notes marks lost =
    ((i : ℕ) × (f : List ℕ) × (slice_get frames i ≡ Some f) × owed (number_of place) m (Frame f)
    × OnePerMessage owed broken (suc place) ms (remove frames i) notes marks lost)
    ⊎ ((i : ℕ) × (n : Noted) × (slice_get notes i ≡ Some n) × owed (number_of place) m (Note (record { 0 = n.0 }) n.1)
    × OnePerMessage owed broken (suc place) ms frames (remove notes i) marks lost)
    ⊎ ((i : ℕ) × (n : Noted) × (slice_get marks i ≡ Some n) × owed (number_of place) m (Deferred n.0 (record { 0 = n.1 }))
    × OnePerMessage owed broken (suc place) ms frames notes (remove marks i) lost)
    ⊎ ((fewer : ℕ) × (lost ≡ suc fewer) × ¬ (broken m) × OnePerMessage owed broken (suc place) ms frames notes marks fewer)

-- one for each message that is answered, up to order, with no reply that comes later
abbrev pub UpToOrder : Owing → (List ℕ → Type 0) → Accounting
UpToOrder owed broken messages frames notes lost = OnePerMessage owed broken 0 messages frames notes [] (length lost)
