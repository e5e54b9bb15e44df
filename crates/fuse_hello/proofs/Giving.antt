-- A stored message is given.
use Rattle.std.proofs.Common.{◌≡◌, ◌≤◌, ℕ, List, ◌∷◌, refl, sym, ◌∙◌, arith, length, take}
use Rattle.std.proofs.lemmas.List.{take_all}
use Rattle.fuse_wire.specs.Source.{TakesMessage}
use Rattle.fuse_wire.specs.declared.consts.TheConstants.{BUFFER_SIZE}
use Rattle.fuse_hello.specs.Store.{messages_told}

-- a short message was taken from the front, and stands in the front of a buffer
pub TakesMessage-stored : (m : List ℕ) (left : List (List ℕ)) (n : ℕ) (buffer : List ℕ) → n ≡ length m → n ≤ 104 → take n buffer ≡ m
    → TakesMessage n (messages_told (m ∷ left)) (messages_told left) buffer
TakesMessage-stored m left n buffer whole short front = record {
  turn = m;
  taken = record { turns = refl; faults = omega arith };
  fits = omega arith;
  bytes = front ∙ sym (take_all BUFFER_SIZE m (omega (arith, whole, short)));
}
