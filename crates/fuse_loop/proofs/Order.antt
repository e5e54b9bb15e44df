-- One frame or note for each message, in order.
use Rattle.std.proofs.Common.{◌≡◌, ◌+◌, ◌++◌, ℕ, suc, List, [], ◌∷◌, sym, ap, subst, arith, refl, length, inl, inr}
use Rattle.std.specs.Prelude.{Some, slice_get, remove}
use Rattle.fuse_wire.specs.Sink.{Note}
use Rattle.fuse_reply.specs.declared.out.Out.{Out}
use Rattle.fuse_reply.specs.declared.out.Out.TheVariants.{Frame, Note as Noted}
use Rattle.fuse_core.specs.OnePerMessage.{InOrder, OnePerMessage, Owing, number_of}

-- one message that a frame was written for
pub InOrder-framed : (owed : Owing) (place : ℕ) (m f : List ℕ) → owed (number_of place) m (Frame f) → InOrder owed place (m ∷ []) (f ∷ []) [] []
InOrder-framed owed place m f pays = inl (f, [], refl, pays, (refl, refl, refl))

-- one message that a note was written for
pub InOrder-noted : (owed : Owing) (place : ℕ) (m : List ℕ) (n : Note) → owed (number_of place) m (Noted (record { 0 = n.0 }) n.1)
    → InOrder owed place (m ∷ []) [] (n ∷ []) []
InOrder-noted owed place m n pays = inr (inl (n, [], refl, pays, (refl, refl, refl)))

-- one message for which this was lost
pub InOrder-lost : (owed : Owing) (place : ℕ) (m : List ℕ) (out : Out) → owed (number_of place) m out → InOrder owed place (m ∷ []) [] [] (out ∷ [])
InOrder-lost owed place m out pays = inr (inr (out, [], refl, pays, (refl, refl, refl)))

-- equal places, frames, notes and losses
pub InOrder-same : (owed : Owing) (place place' : ℕ) (ms fs fs' : List (List ℕ)) (ns ns' : List Note) (ks ks' : List Out)
    → place ≡ place' → fs ≡ fs' → ns ≡ ns' → ks ≡ ks' → InOrder owed place ms fs ns ks → InOrder owed place' ms fs' ns' ks'
InOrder-same owed place place' ms fs fs' ns ns' ks ks' a b c d order =
    subst (λ (k : List Out). InOrder owed place' ms fs' ns' k) d
    (subst (λ (n : List Note). InOrder owed place' ms fs' n ks) c
    (subst (λ (f : List (List ℕ)). InOrder owed place' ms f ns ks) b
    (subst (λ (p : ℕ). InOrder owed p ms fs ns ks) a order)))

-- the place after a message and more
next : (owed : Owing) (place : ℕ) (m : List ℕ) (ms ms' gs : List (List ℕ)) (ns' : List Note) (ls : List Out)
    → InOrder owed (place + length (m ∷ ms)) ms' gs ns' ls → InOrder owed (suc place + length ms) ms' gs ns' ls
next owed place m ms ms' gs ns' ls later =
    InOrder-same owed (place + length (m ∷ ms)) (suc place + length ms) ms' gs gs ns' ns' ls ls (omega arith) refl refl refl later

-- the messages of one stretch, and then those of another
pub InOrder-append : (owed : Owing) (place : ℕ) (ms ms' fs gs : List (List ℕ)) (ns ns' : List Note) (ks ls : List Out)
    → InOrder owed place ms fs ns ks → InOrder owed (place + length ms) ms' gs ns' ls
    → InOrder owed place (ms ++ ms') (fs ++ gs) (ns ++ ns') (ks ++ ls)
InOrder-append owed place [] ms' fs gs ns ns' ks ls done later =
    InOrder-same owed (place + 0) place ms' gs (fs ++ gs) ns' (ns ++ ns') ls (ks ++ ls)
    (omega arith) (sym (ap (λ (x : List (List ℕ)). x ++ gs) done.0)) (sym (ap (λ (x : List Note). x ++ ns') done.1))
    (sym (ap (λ (x : List Out). x ++ ls) done.2)) later
InOrder-append owed place (m ∷ ms) ms' fs gs ns ns' ks ls (inl p) later =
    inl (
      p.0,
      p.1 ++ gs,
      ap (λ (x : List (List ℕ)). x ++ gs) p.2,
      p.3,
      InOrder-append owed (suc place) ms ms' p.1 gs ns ns' ks ls p.4 (next owed place m ms ms' gs ns' ls later),
    )
InOrder-append owed place (m ∷ ms) ms' fs gs ns ns' ks ls (inr (inl p)) later =
    inr (inl (
      p.0,
      p.1 ++ ns',
      ap (λ (x : List Note). x ++ ns') p.2,
      p.3,
      InOrder-append owed (suc place) ms ms' fs gs p.1 ns' ks ls p.4 (next owed place m ms ms' gs ns' ls later),
    ))
InOrder-append owed place (m ∷ ms) ms' fs gs ns ns' ks ls (inr (inr p)) later =
    inr (inr (
      p.0,
      p.1 ++ ls,
      ap (λ (x : List Out). x ++ ls) p.2,
      p.3,
      InOrder-append owed (suc place) ms ms' fs gs ns ns' p.1 ls p.4 (next owed place m ms ms' gs ns' ls later),
    ))

-- what is in order is one for each, with no reply that comes later, where nothing is owed to a broken message
pub OnePerMessage-from_order : (owed : Owing) (broken : List ℕ → Type 0) → ((seq : ℕ) (m : List ℕ) (out : Out) → owed seq m out → broken m → ⊥)
    → (place : ℕ) (ms fs : List (List ℕ)) (ns : List Note) (ks : List Out)
    → InOrder owed place ms fs ns ks → OnePerMessage owed broken place ms fs ns [] (length ks)
OnePerMessage-from_order owed broken whole place [] fs ns ks done = (done.0, done.1, refl, ap (λ (x : List Out). length x) done.2)
OnePerMessage-from_order owed broken whole place (m ∷ ms) fs ns ks (inl p) =
    inl (
      0,
      p.0,
      (subst (λ (x : List (List ℕ)). slice_get x 0 ≡ Some p.0) (sym p.2) refl),
      p.3,
      subst (λ (x : List (List ℕ)). OnePerMessage owed broken (suc place) ms x ns [] (length ks)) (sym (ap (λ (x : List (List ℕ)). remove x 0) p.2))
          (OnePerMessage-from_order owed broken whole (suc place) ms p.1 ns ks p.4),
    )
OnePerMessage-from_order owed broken whole place (m ∷ ms) fs ns ks (inr (inl p)) =
    inr (inl (
      0,
      p.0,
      (subst (λ (x : List Note). slice_get x 0 ≡ Some p.0) (sym p.2) refl),
      p.3,
      subst (λ (x : List Note). OnePerMessage owed broken (suc place) ms fs x [] (length ks)) (sym (ap (λ (x : List Note). remove x 0) p.2))
          (OnePerMessage-from_order owed broken whole (suc place) ms fs p.1 ks p.4),
    ))
OnePerMessage-from_order owed broken whole place (m ∷ ms) fs ns ks (inr (inr p)) =
    inr (inr (inr (
      length p.1,
      ap (λ (x : List Out). length x) p.2,
      whole (number_of place) m p.0 p.3,
      OnePerMessage-from_order owed broken whole (suc place) ms fs ns p.1 p.4,
    )))
