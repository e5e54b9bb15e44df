-- Sends that fail where they are listed.
use Rattle.std.proofs.Common.{◌≡◌, ◌==◌, ℕ, Bool, true, false, List, [], ◌∷◌, Some, None, if◌then◌else◌, refl, ap, arith}
use Rattle.fuse_wire.specs.Sink.{Refuses, Sends}
use Rattle.fuse_wire.specs.MemorySink.{EachFails, FramesHeld, SendsMemory, answer_at, frames_held_told, next_answer, reached_once}
use Rattle.fuse_wire.specs.declared.sink.Sending.{Sending}
use Rattle.fuse_wire.specs.declared.sink.Sending.TheVariants.{Sent, Absent, Failed}
use Rattle.fuse_wire.proofs.Options.{option_map-back_none}

-- no send is listed as sent
fails : (faults : List (ℕ × Sending)) (number : ℕ) → EachFails faults → answer_at faults number ≡ Some Sent → ⊥
fails [] number each found = let no : None ≡ Some Sent = found in cc
fails (fault ∷ faults) number each found = elim (fault.0 == number) as
    (λ (here : Bool). (if here then Some fault.1 else answer_at faults number) ≡ Some Sent → ⊥) [
      | true ↦ λ found. each.0 (let same : fault.1 ≡ Sent = cc in same)
      | false ↦ λ found. fails faults number each.1 found
    ] found

-- nothing is put where a listed send fails, and the count of faults rises
pub Refuses-listed : (answer : Sending) (before after : FramesHeld) → after ≡ reached_once before answer →
    Refuses (frames_held_told before) (frames_held_told after)
Refuses-listed answer before after once = rw once (
  record {
    framed = option_map-back_none (Some before.frames);
    noted = option_map-back_none (Some before.notes);
    faults = omega arith;
    origin = refl;
  },
  λ last. omega arith,
)

-- a listed send is refused
pub Sends-listed : (answer : Sending) (frame : List ℕ) (before after : FramesHeld) → EachFails before.listed → next_answer before ≡ Some answer →
    after ≡ reached_once before answer → Sends answer frame (frames_held_told before) (frames_held_told after)
Sends-listed Sent frame before after each listed once = absurd (fails before.listed _ each listed)
Sends-listed Absent frame before after each listed once =
    ((Refuses-listed Absent before after once, refl), ap (λ (sink : FramesHeld). sink.absent) once)
Sends-listed Failed frame before after each listed once =
    ((Refuses-listed Failed before after once, refl), ap (λ (sink : FramesHeld). sink.absent) once)

-- a listed send is answered as the list says
pub SendsMemory-listed : (answer : Sending) (frame : List ℕ) (before after : FramesHeld) → EachFails before.listed → next_answer before ≡ Some answer →
    after ≡ reached_once before answer → SendsMemory answer frame before after
SendsMemory-listed Sent frame before after each listed once = absurd (fails before.listed _ each listed)
SendsMemory-listed Absent frame before after each listed once = (listed, once)
SendsMemory-listed Failed frame before after each listed once = rw listed (refl, once)
