-- Bytes that are carried on, one step after another.
use Rattle.std.proofs.Common.{◌≡◌, ℕ, ◌+◌, ◌≤◌, List, [], ◌++◌, Option, Result, Ok, Err, length, take, drop, sym, subst, ap, ◌∙◌, inl, append_assoc, append-nil}
use Rattle.std.proofs.lemmas.List.{take-append-drop, take-append-le}
use Rattle.std.proofs.Math.Seq.{take-append-add, take-append_seam}
use Rattle.std.specs.Io.KnownBytes.{Appends}
use Rattle.std.proofs.KnownBytes.{Appends-nil, Appends-trans}
use Rattle.std.specs.declared.io.Error.{Error}
use Rattle.fuse_device.specs.Writing.{Carries, CarriesBy, WritesThrough}

-- nothing is carried where nothing happens
pub carries_none : (held : List ℕ) (a : Option (List ℕ)) → Carries [] held held a a
carries_none held a = record { put = []; bytes = Appends-nil a; order = append-nil held }

-- some of what was held was put, and then bytes were taken
pub carries_then : (taken held held' held'' : List ℕ) (a b c : Option (List ℕ)) → Carries [] held held' a b → Carries taken held' held'' b c
    → Carries taken held held'' a c
carries_then taken held held' held'' a b c first second = record {
  put = first.put ++ second.put;
  bytes = Appends-trans a b c first.put second.put first.bytes second.bytes;
  order = ap (λ (h : List ℕ). h ++ taken) (sym (append-nil held) ∙ first.order)
      ∙ append_assoc first.put held' taken
      ∙ ap (λ (h : List ℕ). first.put ++ h) second.order
      ∙ sym (append_assoc first.put second.put held'');
}

-- some of what was held was put, then all of it, and then more
pub carries_emptied : (taken held held' held'' : List ℕ) (a b c : Option (List ℕ)) → Carries [] held held' a b → held' ≡ [] → held'' ≡ []
    → Appends b c taken → Carries taken held held'' a c
carries_emptied taken held held' held'' a b c first empty still_empty put =
    carries_then taken held held' held'' a b c first (record {
      put = taken;
      bytes = put;
      order = ap (λ (h : List ℕ). h ++ taken) empty ∙ sym (append-nil taken) ∙ ap (λ (h : List ℕ). taken ++ h) (sym still_empty);
    })

-- some of what was held was put, and then a front of the rest
pub carries_front : (held held' held'' : List ℕ) (n : ℕ) (a b c : Option (List ℕ)) → Carries [] held held' a b → Appends b c (take n held')
    → held'' ≡ drop n held' → Carries [] held held'' a c
carries_front held held' held'' n a b c first put rest =
    carries_then [] held held' held'' a b c first (record {
      put = take n held';
      bytes = put;
      order = append-nil held' ∙ sym (take-append-drop n held') ∙ ap (λ (h : List ℕ). take n held' ++ h) (sym rest);
    })

-- what was held was put, and of the piece behind it
pub carries_joined : (held held' piece : List ℕ) (n k : ℕ) (a b : Option (List ℕ)) → length held + k ≡ n → held' ≡ []
    → Appends a b (take n (held ++ piece)) → Carries (take k piece) held held' a b
carries_joined held held' piece n k a b split empty put = record {
  put = take n (held ++ piece);
  bytes = put;
  order = sym (take-append-add held piece k) ∙ ap (λ (m : ℕ). take m (held ++ piece)) split
      ∙ sym (append-nil (take n (held ++ piece))) ∙ ap (λ (h : List ℕ). take n (held ++ piece) ++ h) (sym empty);
}

-- some of what was held was put, and then a write did the rest
writes_through_then : (result : Result ℕ Error) (piece held held' held'' : List ℕ) (a b c : Option (List ℕ)) (count count' : ℕ)
    → Carries [] held held' a b → CarriesBy result piece held' held'' b c count count' → WritesThrough result piece held held'' a c count count'
writes_through_then (Ok n) piece held held' held'' a b c count count' first rest =
    inl (carries_then (take n piece) held held' held'' a b c first rest.0, rest.1)
writes_through_then (Err e) piece held held' held'' a b c count count' first rest =
    (carries_then [] held held' held'' a b c first rest.0, rest.1)

-- a write that lets no frame go is a write
pub writes_through_carried : (result : Result ℕ Error) (piece held held' : List ℕ) (a b : Option (List ℕ)) (count count' : ℕ)
    → CarriesBy result piece held held' a b count count' → WritesThrough result piece held held' a b count count'
writes_through_carried (Ok n) piece held held' a b count count' p = inl p
writes_through_carried (Err e) piece held held' a b count count' p = p

-- no more than a front of what was held was put, and then a write did the rest
pub dropped_then : (result : Result ℕ Error) (piece held held' held'' : List ℕ) (n : ℕ) (a b c : Option (List ℕ)) (count count' : ℕ)
    → n ≤ length held → Appends a b (take n (held ++ piece)) → held' ≡ drop n (take (length held) (held ++ piece))
    → CarriesBy result piece held' held'' b c count count'
    → WritesThrough result piece held held'' a c count count'
dropped_then result piece held held' held'' n a b c count count' within put rest done =
    writes_through_then result piece held held' held'' a b c count count'
    (carries_front held held held' n a a b (carries_none held a)
    (subst (Appends a b) (take-append-le n held piece within) put)
    (rest ∙ ap (drop n) (take-append_seam held piece))) done
