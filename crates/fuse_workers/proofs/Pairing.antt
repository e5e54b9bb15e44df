-- Pairs of items of two lists, and what goes out for messages: the parts of one stretch and then of another, and that pairs with the
-- outs are one frame, note, mark or lost one for each message.
use Rattle.std.proofs.Common.{◌≡◌, ◌+◌, ℕ, suc, Bool, true, List, [], ◌∷◌, ◌++◌, All, cond, filter, length}
use Rattle.std.proofs.Common.{sym, refl, ap, ◌∙◌, subst, append_assoc, inl, inr, ◌⊎◌, arith}
use Rattle.std.specs.List.Sorted.{IsPermutation}
use Rattle.std.proofs.lemmas.List.Elements.{All-cons, All-head, All-nil, All-same, All-tail}
use Rattle.std.proofs.lemmas.List.Sorted.{IsPermutation-cons, IsPermutation-middle, IsPermutation-sym, IsPermutation-trans, length_permutation}
use Rattle.std.proofs.lemmas.List.Sorted.{All-permutation}
use Rattle.fuse_line.proofs.FilteredOrder.{along_order}
use Rattle.fuse_wire.specs.Sink.{Note as Noted}
use Rattle.fuse_wire.specs.declared.newtypes.RequestId.{RequestId}
use Rattle.fuse_reply.specs.Parcel.{is_prompt}
use Rattle.fuse_reply.specs.declared.out.Out.{Out}
use Rattle.fuse_reply.specs.declared.out.Out.TheVariants.{Frame, Note, Deferred}
use Rattle.fuse_reply.specs.declared.parcel.Parcel.{Parcel}
use Rattle.fuse_reply.specs.declared.parcel.Parcel.TheVariants.{Prompt, Notice, Late}
use Rattle.fuse_core.specs.OnePerMessage.{OnePerMessage, Owing, number_of}
use Rattle.fuse_workers.specs.Pairing.{InTurn, Pairs, Parts, numbered, outs_of}
use Rattle.fuse_loop.specs.Progress.{IsPrompt}
use Rattle.fuse_workers.proofs.Places.{Without, Without-at, Without-first, Without-length, Without-under, found}

module _ {A B : Type 0} (R : A → B → Type 0) where
  pub InTurn-one : (x : A) (y : B) → R x y → InTurn R (x ∷ []) (y ∷ [])
  InTurn-one x y r = (y, [], refl, r, refl)

  pub InTurn-append : (xs us : List A) (ys vs : List B) → InTurn R xs ys → InTurn R us vs → InTurn R (xs ++ us) (ys ++ vs)
  InTurn-append [] us ys vs h k = subst (λ l. InTurn R us (l ++ vs)) (sym h) k
  InTurn-append (x ∷ xs) us ys vs h k = (h.0, h.1 ++ vs, ap (λ l. l ++ vs) h.2, h.3, InTurn-append xs us h.1 vs h.4 k)

  pub Pairs-in_turn : (xs : List A) (ys : List B) → InTurn R xs ys → Pairs R xs ys
  Pairs-in_turn [] ys h = h
  Pairs-in_turn (x ∷ xs) ys h = ([], h.0, h.1, h.2, h.3, Pairs-in_turn xs h.1 h.4)

  pub Pairs-one : (x : A) (y : B) → R x y → Pairs R (x ∷ []) (y ∷ [])
  Pairs-one x y r = ([], y, [], refl, r, refl)

  pub Pairs-append : (xs us : List A) (ys vs : List B) → Pairs R xs ys → Pairs R us vs → Pairs R (xs ++ us) (ys ++ vs)
  Pairs-append [] us ys vs h k = subst (λ l. Pairs R us (l ++ vs)) (sym h) k
  Pairs-append (x ∷ xs) us ys vs h k =
      let b = h.0 in
      let a = h.2 in (
        b,
        h.1,
        a ++ vs,
        ap (λ l. l ++ vs) h.3 ∙ append_assoc b (h.1 ∷ a) vs,
        h.4,
        subst (Pairs R (xs ++ us)) (append_assoc b a vs) (Pairs-append xs us (b ++ a) vs h.5 k),
      )

  none_of : (ys : List B) → IsPermutation [] ys → ys ≡ []
  none_of [] p = refl
  none_of (y ∷ ys) p = absurd (omega (arith, length_permutation [] (y ∷ ys) p))

  -- along a permutation of the second list
  pub Pairs-right : (xs : List A) (ys zs : List B) → IsPermutation ys zs → Pairs R xs ys → Pairs R xs zs
  Pairs-right [] ys zs p h = none_of zs (subst (λ l. IsPermutation l zs) h p)
  Pairs-right (x ∷ xs) ys zs p h =
      let f = found ys zs p h.0 h.1 h.2 h.3 in
      (f.0, h.1, f.1, f.2, h.4, Pairs-right xs (h.0 ++ h.2) (f.0 ++ f.1) f.3 h.5)

  Pairs-turn : (x y : A) (xs : List A) (ys : List B) → Pairs R (x ∷ y ∷ xs) ys → Pairs R (y ∷ x ∷ xs) ys
  Pairs-turn x y xs ys h =
      let k = h.5 in
      let u = h.1 in
      let w = k.1 in
      let rest = k.0 ++ k.2 in
      let p : IsPermutation ys (u ∷ (h.0 ++ h.2)) = subst (λ l. IsPermutation l (u ∷ (h.0 ++ h.2))) (sym h.3) (IsPermutation-middle h.0 u h.2) in
      let q : IsPermutation (h.0 ++ h.2) (w ∷ rest) = subst (λ l. IsPermutation l (w ∷ rest)) (sym k.3) (IsPermutation-middle k.0 w k.2) in
      let all : IsPermutation ys (w ∷ u ∷ rest) =
      IsPermutation-trans _ _ _ p (IsPermutation-trans _ _ _ (IsPermutation-cons u _ _ q) (IsPermutation-middle (u ∷ []) w rest)) in
      let there : Pairs R (y ∷ x ∷ xs) (w ∷ u ∷ rest) = ([], w, u ∷ rest, refl, k.4, ([], u, rest, refl, h.4, k.5)) in
      Pairs-right (y ∷ x ∷ xs) (w ∷ u ∷ rest) ys (IsPermutation-sym _ _ all) there

  -- along a permutation of the first list
  pub Pairs-left : (xs ws : List A) → IsPermutation xs ws → (ys : List B) → Pairs R xs ys → Pairs R ws ys
  Pairs-left = along_order (λ xs ws. (ys : List B) → Pairs R xs ys → Pairs R ws ys)
      (λ xs ys h. h)
      (λ x xs ws f ys h. (h.0, h.1, h.2, h.3, h.4, f (h.0 ++ h.2) h.5))
      (λ x y xs ys h. Pairs-turn x y xs ys h)
      (λ xs ys zs f g l h. g l (f l h))

  -- what holds of each that stands in it to something holds of each of the second list
  pub Pairs-all : (P : B → Type 0) → ((x : A) (y : B) → R x y → P y) → (xs : List A) (ys : List B) → Pairs R xs ys → All P ys
  Pairs-all P each [] ys h = All-same P ys [] h (All-nil P)
  Pairs-all P each (x ∷ xs) ys h =
      All-same P ys (h.0 ++ h.1 ∷ h.2) h.3
      (All-permutation P (h.1 ∷ (h.0 ++ h.2)) (h.0 ++ h.1 ∷ h.2) (IsPermutation-sym _ _ (IsPermutation-middle h.0 h.1 h.2))
      (All-cons P h.1 (h.0 ++ h.2) (each x h.1 h.4) (Pairs-all P each xs (h.0 ++ h.2) h.5)))

filter_passing : {X : Type 0} (p : X → Bool) (xs : List X) → All (λ x. p x ≡ true) xs → filter p xs ≡ xs
filter_passing p [] all = refl
filter_passing p (x ∷ xs) all =
    ap (λ c. cond c (x ∷ filter p xs) (filter p xs)) (All-head (λ y. p y ≡ true) x xs all)
    ∙ ap (λ l. x ∷ l) (filter_passing p xs (All-tail (λ y. p y ≡ true) x xs all))

-- a test that all pass which stand in it to something leaves the second list as it is
pub Pairs-passing : {A B : Type 0} (R : A → B → Type 0) (p : B → Bool) → ((x : A) (y : B) → R x y → p y ≡ true)
    → (xs : List A) (ys : List B) → Pairs R xs ys → filter p ys ≡ ys
Pairs-passing R p each xs ys h = filter_passing p ys (Pairs-all R (λ y. p y ≡ true) each xs ys h)

-- one message more has the number of its place
numbered-append : (place : ℕ) (ms : List (List ℕ)) (m : List ℕ)
    → numbered place (ms ++ m ∷ []) ≡ numbered place ms ++ (number_of (place + length ms), m) ∷ []
numbered-append place [] m = let same : place ≡ place + 0 = omega arith in ap (λ (n : ℕ). (number_of n, m) ∷ []) same
numbered-append place (n ∷ ms) m =
    let same : suc place + length ms ≡ place + length (n ∷ ms) = omega arith in
    let rest : List (ℕ × List ℕ) = numbered (suc place) ms in
    ap (λ (l : List (ℕ × List ℕ)). (number_of place, n) ∷ l)
    (numbered-append (suc place) ms m ∙ ap (λ (k : ℕ). rest ++ (number_of k, m) ∷ []) same)

pub numbered-more : (ms : List (List ℕ)) (m : List ℕ) → numbered 0 (ms ++ m ∷ []) ≡ numbered 0 ms ++ (number_of (length ms), m) ∷ []
numbered-more ms m =
    let same : 0 + length ms ≡ length ms = omega arith in numbered-append 0 ms m ∙ ap (λ (n : ℕ). numbered 0 ms ++ (number_of n, m) ∷ []) same

pub outs_of-append : (parcels more : List Parcel) → outs_of (parcels ++ more) ≡ outs_of parcels ++ outs_of more
outs_of-append [] more = refl
outs_of-append (Prompt seq out ∷ parcels) more = ap (λ (l : List Out). out ∷ l) (outs_of-append parcels more)
outs_of-append (Notice frame ∷ parcels) more = outs_of-append parcels more
outs_of-append (Late frame ∷ parcels) more = outs_of-append parcels more

-- notices hold no outs, nor do frames that come later
pub outs_of-filtered : (parcels : List Parcel) → outs_of (filter is_prompt parcels) ≡ outs_of parcels
outs_of-filtered [] = refl
outs_of-filtered (Prompt seq out ∷ parcels) = ap (λ (l : List Out). out ∷ l) (outs_of-filtered parcels)
outs_of-filtered (Notice frame ∷ parcels) = outs_of-filtered parcels
outs_of-filtered (Late frame ∷ parcels) = outs_of-filtered parcels

-- one out, which is a frame
pub Parts-framed : (f : List ℕ) → Parts (Frame f ∷ []) (f ∷ []) [] [] []
Parts-framed f = inl (f, [], refl, refl, (refl, refl, refl, refl))

-- one out, which is a note
pub Parts-noted : (id : RequestId) (mark : ℕ) → Parts (Note id mark ∷ []) [] ((id.0, mark) ∷ []) [] []
Parts-noted id mark = inr (inl ((id.0, mark), [], refl, refl, (refl, refl, refl, refl)))

-- one out, which was lost
pub Parts-lost : (out : Out) → Parts (out ∷ []) [] [] [] (out ∷ [])
Parts-lost out = inr (inr (inr ([], refl, (refl, refl, refl, refl))))

-- the parts of one stretch, and then those of another
pub Parts-append : (outs more : List Out) (fs gs : List (List ℕ)) (ns ns' marks marks' : List Noted) (lost lost' : List Out)
    → Parts outs fs ns marks lost → Parts more gs ns' marks' lost'
    → Parts (outs ++ more) (fs ++ gs) (ns ++ ns') (marks ++ marks') (lost ++ lost')
Parts-append [] more fs gs ns ns' marks marks' lost lost' h k =
    subst (λ (l : List (List ℕ) × List Noted × List Noted × List Out). Parts more (l.0 ++ gs) (l.1 ++ ns') (l.2 ++ marks') (l.3 ++ lost'))
    (λ i. (sym h.0 i, sym h.1 i, sym h.2 i, sym h.3 i)) k
Parts-append (out ∷ outs) more fs gs ns ns' marks marks' lost lost' (inl p) k =
    inl (
      p.0,
      p.1 ++ gs,
      ap (λ (l : List (List ℕ)). l ++ gs) p.2,
      p.3,
      Parts-append outs more p.1 gs ns ns' marks marks' lost lost' p.4 k,
    )
Parts-append (out ∷ outs) more fs gs ns ns' marks marks' lost lost' (inr (inl p)) k =
    inr (inl (
      p.0,
      p.1 ++ ns',
      ap (λ (l : List Noted). l ++ ns') p.2,
      p.3,
      Parts-append outs more fs gs p.1 ns' marks marks' lost lost' p.4 k,
    ))
Parts-append (out ∷ outs) more fs gs ns ns' marks marks' lost lost' (inr (inr (inl p))) k =
    inr (inr (inl (
      p.0,
      p.1 ++ marks',
      ap (λ (l : List Noted). l ++ marks') p.2,
      p.3,
      Parts-append outs more fs gs ns ns' p.1 marks' lost lost' p.4 k,
    )))
Parts-append (out ∷ outs) more fs gs ns ns' marks marks' lost lost' (inr (inr (inr p))) k =
    inr (inr (inr (
      p.0 ++ lost',
      ap (λ (l : List Out). l ++ lost') p.1,
      Parts-append outs more fs gs ns ns' marks marks' p.0 lost' p.2 k,
    )))

-- the frame, note, mark or lost one that the out is stands at some place, and without it this holds of the lists
abbrev pub OneLess : (List (List ℕ) → List Noted → List Noted → List Out → Type 0)
    → Out → (frames : List (List ℕ)) → (notes marks : List Noted) → (lost : List Out) → Type 0
OneLess P out fs ns marks lost =
    ((f : List ℕ) × (rest : List (List ℕ)) × (out ≡ Frame f) × Without fs f rest × P rest ns marks lost)
    ⊎ ((n : Noted) × (rest : List Noted) × (out ≡ Note (record { 0 = n.0 }) n.1) × Without ns n rest × P fs rest marks lost)
    ⊎ ((n : Noted) × (rest : List Noted) × (out ≡ Deferred n.0 (record { 0 = n.1 })) × Without marks n rest × P fs ns rest lost)
    ⊎ ((rest : List Out) × Without lost out rest × P fs ns marks rest)

module _ (P Q : List (List ℕ) → List Noted → List Noted → List Out → Type 0) (out : Out) where
  framed_before : (g : List ℕ) → ((fs : List (List ℕ)) (ns marks : List Noted) (lost : List Out) → P fs ns marks lost → Q (g ∷ fs) ns marks lost)
      → (fs : List (List ℕ)) (ns marks : List Noted) (lost : List Out) → OneLess P out fs ns marks lost → OneLess Q out (g ∷ fs) ns marks lost
  framed_before g more fs ns marks lost (inl p) = inl (p.0, g ∷ p.1, p.2, Without-under g fs p.0 p.1 p.3, more p.1 ns marks lost p.4)
  framed_before g more fs ns marks lost (inr (inl p)) = inr (inl (p.0, p.1, p.2, p.3, more fs p.1 marks lost p.4))
  framed_before g more fs ns marks lost (inr (inr (inl p))) = inr (inr (inl (p.0, p.1, p.2, p.3, more fs ns p.1 lost p.4)))
  framed_before g more fs ns marks lost (inr (inr (inr p))) = inr (inr (inr (p.0, p.1, more fs ns marks p.0 p.2)))

  noted_before : (n : Noted) → ((fs : List (List ℕ)) (ns marks : List Noted) (lost : List Out) → P fs ns marks lost → Q fs (n ∷ ns) marks lost)
      → (fs : List (List ℕ)) (ns marks : List Noted) (lost : List Out) → OneLess P out fs ns marks lost → OneLess Q out fs (n ∷ ns) marks lost
  noted_before n more fs ns marks lost (inl p) = inl (p.0, p.1, p.2, p.3, more p.1 ns marks lost p.4)
  noted_before n more fs ns marks lost (inr (inl p)) = inr (inl (p.0, n ∷ p.1, p.2, Without-under n ns p.0 p.1 p.3, more fs p.1 marks lost p.4))
  noted_before n more fs ns marks lost (inr (inr (inl p))) = inr (inr (inl (p.0, p.1, p.2, p.3, more fs ns p.1 lost p.4)))
  noted_before n more fs ns marks lost (inr (inr (inr p))) = inr (inr (inr (p.0, p.1, more fs ns marks p.0 p.2)))

  marked_before : (n : Noted) → ((fs : List (List ℕ)) (ns marks : List Noted) (lost : List Out) → P fs ns marks lost → Q fs ns (n ∷ marks) lost)
      → (fs : List (List ℕ)) (ns marks : List Noted) (lost : List Out) → OneLess P out fs ns marks lost → OneLess Q out fs ns (n ∷ marks) lost
  marked_before n more fs ns marks lost (inl p) = inl (p.0, p.1, p.2, p.3, more p.1 ns marks lost p.4)
  marked_before n more fs ns marks lost (inr (inl p)) = inr (inl (p.0, p.1, p.2, p.3, more fs p.1 marks lost p.4))
  marked_before n more fs ns marks lost (inr (inr (inl p))) =
      inr (inr (inl (p.0, n ∷ p.1, p.2, Without-under n marks p.0 p.1 p.3, more fs ns p.1 lost p.4)))
  marked_before n more fs ns marks lost (inr (inr (inr p))) = inr (inr (inr (p.0, p.1, more fs ns marks p.0 p.2)))

  lost_before : (o : Out) → ((fs : List (List ℕ)) (ns marks : List Noted) (lost : List Out) → P fs ns marks lost → Q fs ns marks (o ∷ lost))
      → (fs : List (List ℕ)) (ns marks : List Noted) (lost : List Out) → OneLess P out fs ns marks lost → OneLess Q out fs ns marks (o ∷ lost)
  lost_before o more fs ns marks lost (inl p) = inl (p.0, p.1, p.2, p.3, more p.1 ns marks lost p.4)
  lost_before o more fs ns marks lost (inr (inl p)) = inr (inl (p.0, p.1, p.2, p.3, more fs p.1 marks lost p.4))
  lost_before o more fs ns marks lost (inr (inr (inl p))) = inr (inr (inl (p.0, p.1, p.2, p.3, more fs ns p.1 lost p.4)))
  lost_before o more fs ns marks lost (inr (inr (inr p))) =
      inr (inr (inr (o ∷ p.0, Without-under o lost out p.0 p.1, more fs ns marks p.0 p.2)))

-- without the out at some place its frame, note, mark or lost one is gone
pub Parts-removed : (b : List Out) (y : Out) (a : List Out) (fs : List (List ℕ)) (ns marks : List Noted) (lost : List Out)
    → Parts (b ++ y ∷ a) fs ns marks lost → OneLess (Parts (b ++ a)) y fs ns marks lost
Parts-removed [] y a fs ns marks lost (inl p) = inl (p.0, p.1, p.3, Without-first fs p.0 p.1 p.2, p.4)
Parts-removed [] y a fs ns marks lost (inr (inl p)) = inr (inl (p.0, p.1, p.3, Without-first ns p.0 p.1 p.2, p.4))
Parts-removed [] y a fs ns marks lost (inr (inr (inl p))) = inr (inr (inl (p.0, p.1, p.3, Without-first marks p.0 p.1 p.2, p.4)))
Parts-removed [] y a fs ns marks lost (inr (inr (inr p))) = inr (inr (inr (p.0, Without-first lost y p.0 p.1, p.2)))
Parts-removed (z ∷ b) y a fs ns marks lost (inl p) =
    subst (λ (l : List (List ℕ)). OneLess (Parts (z ∷ (b ++ a))) y l ns marks lost) (sym p.2)
    (framed_before (Parts (b ++ a)) (Parts (z ∷ (b ++ a))) y p.0 (λ fs' ns' marks' lost' h. inl (p.0, fs', refl, p.3, h)) p.1 ns marks lost
    (Parts-removed b y a p.1 ns marks lost p.4))
Parts-removed (z ∷ b) y a fs ns marks lost (inr (inl p)) =
    subst (λ (l : List Noted). OneLess (Parts (z ∷ (b ++ a))) y fs l marks lost) (sym p.2)
    (noted_before (Parts (b ++ a)) (Parts (z ∷ (b ++ a))) y p.0 (λ fs' ns' marks' lost' h. inr (inl (p.0, ns', refl, p.3, h))) fs p.1 marks lost
    (Parts-removed b y a fs p.1 marks lost p.4))
Parts-removed (z ∷ b) y a fs ns marks lost (inr (inr (inl p))) =
    subst (λ (l : List Noted). OneLess (Parts (z ∷ (b ++ a))) y fs ns l lost) (sym p.2)
    (marked_before (Parts (b ++ a)) (Parts (z ∷ (b ++ a))) y p.0 (λ fs' ns' marks' lost' h. inr (inr (inl (p.0, marks', refl, p.3, h)))) fs ns p.1 lost
    (Parts-removed b y a fs ns p.1 lost p.4))
Parts-removed (z ∷ b) y a fs ns marks lost (inr (inr (inr p))) =
    subst (λ (l : List Out). OneLess (Parts (z ∷ (b ++ a))) y fs ns marks l) (sym p.1)
    (lost_before (Parts (b ++ a)) (Parts (z ∷ (b ++ a))) y z (λ fs' ns' marks' lost' h. inr (inr (inr (lost', refl, h)))) fs ns marks p.0
    (Parts-removed b y a fs ns marks p.0 p.2))

-- where each goes out at once there is no mark
pub Parts-prompt : (outs : List Out) (fs : List (List ℕ)) (ns marks : List Noted) (lost : List Out)
    → All IsPrompt outs → Parts outs fs ns marks lost → marks ≡ []
Parts-prompt [] fs ns marks lost now h = h.2
Parts-prompt (out ∷ outs) fs ns marks lost now (inl p) =
    Parts-prompt outs p.1 ns marks lost (All-tail IsPrompt out outs now) p.4
Parts-prompt (out ∷ outs) fs ns marks lost now (inr (inl p)) =
    Parts-prompt outs fs p.1 marks lost (All-tail IsPrompt out outs now) p.4
Parts-prompt (out ∷ outs) fs ns marks lost now (inr (inr (inl p))) =
    absurd (subst IsPrompt p.3 (All-head IsPrompt out outs now))
Parts-prompt (out ∷ outs) fs ns marks lost now (inr (inr (inr p))) =
    Parts-prompt outs fs ns marks p.0 (All-tail IsPrompt out outs now) p.2

module _ (owed : Owing) (broken : List ℕ → Type 0) (whole : (seq : ℕ) (m : List ℕ) (out : Out) → owed seq m out → broken m → ⊥) where
  -- the first message, where the others are one each in what is left
  one_first : (place : ℕ) (m : List ℕ) (ms : List (List ℕ)) (y : Out) (P : List (List ℕ) → List Noted → List Noted → List Out → Type 0)
      → ((fs : List (List ℕ)) (ns marks : List Noted) (lost : List Out) → P fs ns marks lost
      → OnePerMessage owed broken (suc place) ms fs ns marks (length lost))
      → owed (number_of place) m y → (fs : List (List ℕ)) (ns marks : List Noted) (lost : List Out) → OneLess P y fs ns marks lost
      → OnePerMessage owed broken place (m ∷ ms) fs ns marks (length lost)
  one_first place m ms y P others pays fs ns marks lost (inl p) =
      let at = Without-at fs p.0 p.1 p.3 in
      inl (
        at.0,
        p.0,
        at.1,
        subst (owed (number_of place) m) p.2 pays,
        subst (λ (l : List (List ℕ)). OnePerMessage owed broken (suc place) ms l ns marks (length lost)) at.2 (others p.1 ns marks lost p.4),
      )
  one_first place m ms y P others pays fs ns marks lost (inr (inl p)) =
      let at = Without-at ns p.0 p.1 p.3 in
      inr (inl (
        at.0,
        p.0,
        at.1,
        subst (owed (number_of place) m) p.2 pays,
        subst (λ (l : List Noted). OnePerMessage owed broken (suc place) ms fs l marks (length lost)) at.2 (others fs p.1 marks lost p.4),
      ))
  one_first place m ms y P others pays fs ns marks lost (inr (inr (inl p))) =
      let at = Without-at marks p.0 p.1 p.3 in
      inr (inr (inl (
        at.0,
        p.0,
        at.1,
        subst (owed (number_of place) m) p.2 pays,
        subst (λ (l : List Noted). OnePerMessage owed broken (suc place) ms fs ns l (length lost)) at.2 (others fs ns p.1 lost p.4),
      )))
  one_first place m ms y P others pays fs ns marks lost (inr (inr (inr p))) =
      inr (inr (inr (
        length p.0,
        Without-length lost y p.0 p.1,
        whole (number_of place) m y pays,
        others fs ns marks p.0 p.2,
      )))

  -- pairs of messages and outs are one frame, note, mark or lost one for each message, where nothing is owed to a broken one
  pub OnePerMessage-parts : (place : ℕ) (ms fs : List (List ℕ)) (ns marks : List Noted) (outs lost : List Out)
      → Pairs (λ (p : ℕ × List ℕ) (o : Out). owed p.0 p.1 o) (numbered place ms) outs → Parts outs fs ns marks lost
      → OnePerMessage owed broken place ms fs ns marks (length lost)
  OnePerMessage-parts place [] fs ns marks outs lost h parts =
      let none = subst (λ (o : List Out). Parts o fs ns marks lost) h parts in
      (none.0, none.1, none.2, ap (λ (l : List Out). length l) none.3)
  OnePerMessage-parts place (m ∷ ms) fs ns marks outs lost h parts =
      one_first place m ms h.1 (Parts (h.0 ++ h.2))
      (λ fs' ns' marks' lost' p. OnePerMessage-parts (suc place) ms fs' ns' marks' (h.0 ++ h.2) lost' h.5 p)
      h.4 fs ns marks lost
      (Parts-removed h.0 h.1 h.2 fs ns marks lost (subst (λ (o : List Out). Parts o fs ns marks lost) h.3 parts))
