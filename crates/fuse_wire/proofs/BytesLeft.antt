-- Bytes read from memory.
use Rattle.std.proofs.Common.{◌≡◌, ℕ, ◌+◌, ◌-◌, ◌≤◌, List, ◌++◌, Some, length, take, drop, sym, ap, ◌∙◌, arith}
use Rattle.std.proofs.lemmas.List.{take-append-drop, drop-drop, take-take, take_rest}
use Rattle.fuse_wire.specs.ByteSource.{TakesBytes}

-- the front of what is left of some bytes, and what is left after it
pub TakesBytes-drop : (bytes front : List ℕ) (next n faults : ℕ) → front ≡ take n (drop next bytes) →
    TakesBytes front (record { bytes = Some (drop next bytes); faults = faults }) (record { bytes = Some (drop (next + n) bytes); faults = faults })
TakesBytes-drop bytes front next n faults taken =
    record {
      bytes = ap Some
          (sym (take-append-drop n (drop next bytes))
          ∙ ap (λ left. take n (drop next bytes) ++ left) (drop-drop n next bytes)
          ∙ ap (λ taken. taken ++ drop (next + n) bytes) (sym taken));
      faults = omega arith;
    }

-- the front of a part of what is left of some bytes, as far as the part goes
pub take-part : (r most next : ℕ) (bytes : List ℕ) → r ≤ most → take r (take most (take (length bytes - next) (drop next bytes))) ≡ take r (drop next bytes)
take-part r most next bytes within =
    take-take r most (take (length bytes - next) (drop next bytes)) within ∙ ap (λ rest. take r rest) (take_rest bytes next)
