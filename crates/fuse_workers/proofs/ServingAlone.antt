-- The caller where there is no sender, turn by turn.
use Rattle.std.proofs.Common.{◌≡◌, ◌∙◌, ◌++◌, ℕ, List, [], ◌∷◌, ap, append-nil, append_assoc, length, refl, subst, sym}
use Rattle.std.specs.Prelude.{filter}
use Rattle.std.proofs.lemmas.List.{nil_from_length}
use Rattle.std.proofs.lemmas.List.Sorted.{length_permutation}
use Rattle.fuse_line.specs.Hand.{hand}
use Rattle.fuse_line.specs.Tells.{IsSettled}
use Rattle.fuse_line.specs.declared.hand.Hand.{Hand}
use Rattle.fuse_line.specs.declared.hand.Kind.TheVariants.{First}
use Rattle.fuse_reply.specs.Late.{LateSeen}
use Rattle.fuse_reply.specs.Parcel.{is_prompt}
use Rattle.fuse_reply.specs.declared.out.Out.{Out}
use Rattle.fuse_reply.specs.declared.parcel.Parcel.{Parcel}
use Rattle.fuse_reply.specs.declared.parcel.Parcel.TheVariants.{Prompt}
use Rattle.fuse_workers.specs.Alone.{AnswersLast, ServesAlone}
use Rattle.fuse_workers.specs.HandingOn.{AnsweredBy, answered_last}
use Rattle.fuse_workers.specs.Hearing.{HearsLast, HearsOn}
use Rattle.fuse_loop.specs.Lines.{lates_in, notices_in}
use Rattle.fuse_core.specs.OnePerMessage.{Owing, number_of}
use Rattle.fuse_workers.specs.Pairing.{Pairs, numbered, outs_of}
use Rattle.fuse_loop.specs.Progress.{IntakeState}
use Rattle.fuse_workers.specs.Relays.{RelayState, Relays}
use Rattle.fuse_workers.specs.declared.stopped.Stopped.{Stopped}
use Rattle.fuse_loop.proofs.FrameLines.{notices-append}
use Rattle.fuse_workers.proofs.Hearing.{HearsLast-after, HearsOn-none, HearsOn-then}
use Rattle.fuse_workers.proofs.Pairing.{Pairs-append, Pairs-one, numbered-more, outs_of-append, outs_of-filtered}
use Rattle.fuse_workers.proofs.Relaying.{Relays-none, Relays-out, Relays-then, lates-append}

-- no prompt was taken where none was pushed
pub outs-none : (taken : List Parcel) → IsSettled is_prompt (hand First 0 [] taken) → outs_of taken ≡ []
outs-none taken settled =
    sym (outs_of-filtered taken)
    ∙ ap outs_of (nil_from_length (filter is_prompt taken) (length_permutation [] (filter is_prompt taken) (settled refl refl)))

-- nor was among what was taken first, or then
pub outs-first : (xs ys : List Parcel) → outs_of (xs ++ ys) ≡ [] → outs_of xs ≡ []
outs-first xs ys none = nil-first (outs_of xs) (outs_of ys) (sym (outs_of-append xs ys) ∙ none)
  where
    nil-first : (os ps : List Out) → os ++ ps ≡ [] → os ≡ []
    nil-first [] ps is = refl
    nil-first (o ∷ os) ps is = absurd (let no : ⊥ = cc in no)

pub outs-then : (xs ys : List Parcel) → outs_of xs ≡ [] → outs_of (xs ++ ys) ≡ [] → outs_of ys ≡ []
outs-then xs ys first none = ap (λ (l : List Out). l ++ outs_of ys) (sym first) ∙ (sym (outs_of-append xs ys) ∙ none)

-- the first pass of a line that is alone, after it took more
pub alone-hand : (old new : Hand Parcel) (more : List Parcel) → old ≡ hand First 0 [] old.taken → new ≡ hand First old.others old.put (old.taken ++ more)
    → new ≡ hand First 0 [] (old.taken ++ more)
alone-hand old new more alone is = is ∙ ap (λ (h : Hand Parcel). hand First h.others h.put (old.taken ++ more)) alone

pub alone-itself : (h : Hand Parcel) (taken : List Parcel) → h ≡ hand First 0 [] taken → h ≡ hand First 0 [] h.taken
alone-itself h taken is = is ∙ ap (λ (l : List Parcel). hand First 0 [] l) (sym (ap (λ (x : Hand Parcel). x.taken) is))

pub alone-unprompted : (h : Hand Parcel) (taken : List Parcel) → h ≡ hand First 0 [] taken → IsSettled is_prompt h → outs_of taken ≡ []
alone-unprompted h taken is settled = outs-none taken (subst (λ (x : Hand Parcel). IsSettled is_prompt x) is settled)

pub alone-taken : (first more rest : List Parcel) (old new : Hand Parcel) → old ≡ hand First 0 [] (first ++ more) → new ≡ hand First 0 [] (old.taken ++ rest)
    → new ≡ hand First 0 [] (first ++ (more ++ rest))
alone-taken first more rest old new before is =
    is ∙ ap (λ (l : List Parcel). hand First 0 [] l) (ap (λ (h : Hand Parcel). h.taken ++ rest) before ∙ append_assoc first more rest)

-- the messages so far were answered, and what was taken off the line was handed on
pub record ServesOn (owed : Owing) (messages : List (List ℕ)) (taken : List Parcel) (before after : IntakeState) (relay relay' : RelayState) : Type 0 where
  pub hears : HearsOn messages before after
  pub parcels : List Parcel
  pub relays : Relays parcels relay relay'
  pub answered : AnsweredBy owed messages (outs_of parcels)
  pub same_notices : notices_in parcels ≡ notices_in taken
  pub same_late : lates_in parcels ≡ lates_in taken

pub ServesOn-none : (owed : Owing) (a : IntakeState) (r : RelayState) → ServesOn owed [] [] a a r r
ServesOn-none owed a r = record {
  hears = HearsOn-none a;
  parcels = [];
  relays = Relays-none r;
  answered = refl;
  same_notices = refl;
  same_late = refl;
}

-- what was handed on for the last message, where one is answered
record Last (owed : Owing) (messages last : List (List ℕ)) (relay relay' : RelayState) : Type 0 where
  parcels : List Parcel
  relays : Relays parcels relay relay'
  answered : (outs : List Out) → AnsweredBy owed messages outs → AnsweredBy owed (messages ++ last) (outs ++ outs_of parcels)
  no_notice : notices_in parcels ≡ []
  no_late : lates_in parcels ≡ []

last-answered : (owed : Owing) (messages last : List (List ℕ)) (seq : ℕ) (r s : RelayState) → number_of (length messages) ≡ seq
    → AnswersLast owed seq last r s → Last owed messages last r s
last-answered owed messages [] seq r s number same = record {
  parcels = [];
  relays = subst (λ (x : RelayState). Relays [] r x) (sym same) (Relays-none r);
  answered = λ outs so_far.
      subst (λ (l : List (List ℕ)). AnsweredBy owed l (outs ++ [])) (sym (append-nil messages))
      (subst (λ (l : List Out). AnsweredBy owed messages l) (sym (append-nil outs)) so_far);
  no_notice = refl;
  no_late = refl;
}
last-answered owed messages (m ∷ more) seq r s number answers = record {
  parcels = Prompt seq answers.1 ∷ [];
  relays = Relays-out seq answers.1 r s answers.3;
  answered = λ outs so_far.
      let pays = subst (λ (n : ℕ). owed n m answers.1) (sym number) answers.2 in
      let one = Pairs-one owes (number_of (length messages), m) answers.1 pays in
      subst (λ (l : List (List ℕ)). AnsweredBy owed (messages ++ m ∷ l) (outs ++ answers.1 ∷ [])) (sym answers.0)
      (subst (λ (l : List (ℕ × List ℕ)). Pairs owes l (outs ++ answers.1 ∷ [])) (sym (numbered-more messages m))
      (Pairs-append owes (numbered 0 messages) ((number_of (length messages), m) ∷ []) outs (answers.1 ∷ []) so_far one));
  no_notice = refl;
  no_late = refl;
} where
  owes : ℕ × List ℕ → Out → Type 0
  owes p o = owed p.0 p.1 o

module _ {owed : Owing} {messages : List (List ℕ)} {taken : List Parcel} {a b : IntakeState} {r s : RelayState}
    (so_far : ServesOn owed messages taken a b r s) (last : List (List ℕ)) (seq : ℕ) (t u : RelayState) (rest : List Parcel)
    (number : number_of (length messages) ≡ seq) (answers : AnswersLast owed seq last s t) (sent : Relays rest t u) (none : outs_of rest ≡ []) where
  abbrev ends : Last owed messages last s t
  ends = last-answered owed messages last seq s t number answers

  abbrev all : List Parcel
  all = (so_far.parcels ++ ends.parcels) ++ rest

  all-relayed : Relays all r u
  all-relayed = Relays-then (so_far.parcels ++ ends.parcels) rest r t u (Relays-then so_far.parcels ends.parcels r s t so_far.relays ends.relays) sent

  all-answered : AnsweredBy owed (messages ++ last) (outs_of all)
  all-answered =
      subst (λ (l : List Out). AnsweredBy owed (messages ++ last) l)
      (sym (outs_of-append (so_far.parcels ++ ends.parcels) rest ∙ (ap (λ (l : List Out). outs_of (so_far.parcels ++ ends.parcels) ++ l) none
      ∙ (append-nil (outs_of (so_far.parcels ++ ends.parcels)) ∙ outs_of-append so_far.parcels ends.parcels))))
      (ends.answered (outs_of so_far.parcels) so_far.answered)

  all-notices : notices_in all ≡ notices_in (taken ++ rest)
  all-notices =
      notices-append (so_far.parcels ++ ends.parcels) rest
      ∙ (ap (λ (l : List (List ℕ)). l ++ notices_in rest) (notices-append so_far.parcels ends.parcels
      ∙ (ap (λ (l : List (List ℕ)). notices_in so_far.parcels ++ l) ends.no_notice
      ∙ (append-nil (notices_in so_far.parcels) ∙ so_far.same_notices)))
      ∙ sym (notices-append taken rest))

  all-late : lates_in all ≡ lates_in (taken ++ rest)
  all-late =
      lates-append (so_far.parcels ++ ends.parcels) rest
      ∙ (ap (λ (l : List LateSeen). l ++ lates_in rest) (lates-append so_far.parcels ends.parcels
      ∙ (ap (λ (l : List LateSeen). lates_in so_far.parcels ++ l) ends.no_late
      ∙ (append-nil (lates_in so_far.parcels) ∙ so_far.same_late)))
      ∙ sym (lates-append taken rest))

-- one message more
pub ServesOn-next : {owed : Owing} {messages : List (List ℕ)} {taken : List Parcel} {a b c : IntakeState} {r s : RelayState}
    → ServesOn owed messages taken a b r s
    → (m : List ℕ) (seq : ℕ) (t u : RelayState) (rest : List Parcel) → number_of (length messages) ≡ seq → HearsOn (m ∷ []) b c
    → AnswersLast owed seq (m ∷ []) s t → Relays rest t u → outs_of rest ≡ [] → ServesOn owed (messages ++ m ∷ []) (taken ++ rest) a c r u
ServesOn-next {owed} {messages} {taken} {a} {b} {c} {r} {s} so_far m seq t u rest number hears answers sent none = record {
  hears = HearsOn-then messages (m ∷ []) a b c so_far.hears hears;
  parcels = all so_far (m ∷ []) seq t u rest number answers sent none;
  relays = all-relayed so_far (m ∷ []) seq t u rest number answers sent none;
  answered = all-answered so_far (m ∷ []) seq t u rest number answers sent none;
  same_notices = all-notices so_far (m ∷ []) seq t u rest number answers sent none;
  same_late = all-late so_far (m ∷ []) seq t u rest number answers sent none;
}

-- no message more
module _ {owed : Owing} {messages : List (List ℕ)} {taken : List Parcel} {a b c : IntakeState} {r s : RelayState}
    (so_far : ServesOn owed messages taken a b r s)
    (stopped : Stopped) (t u : RelayState) (rest : List Parcel) (sent : Relays rest t u) (none : outs_of rest ≡ []) where
  ends-here : (hears : HearsLast stopped (number_of (length messages)) [] b c)
      → AnswersLast owed (number_of (length messages)) (answered_last stopped hears.last) s t → ServesAlone owed stopped (taken ++ rest) a c r u
  ends-here hears answers =
      let last = answered_last stopped hears.last in
      let whole = HearsLast-after stopped (number_of (length messages)) messages a b c so_far.hears hears in
      record {
        parcels = all so_far last (number_of (length messages)) t u rest refl answers sent none;
        hands_on = record {
          relays = all-relayed so_far last (number_of (length messages)) t u rest refl answers sent none;
          conducted = (
            messages,
            whole.0,
            subst (λ (l : List (List ℕ)). AnsweredBy owed (messages ++ answered_last stopped l)
                (outs_of (all so_far last (number_of (length messages)) t u rest refl answers sent none))) (sym whole.1)
                (all-answered so_far last (number_of (length messages)) t u rest refl answers sent none),
          );
        };
        same_notices = all-notices so_far last (number_of (length messages)) t u rest refl answers sent none;
        same_late = all-late so_far last (number_of (length messages)) t u rest refl answers sent none;
      }

  pub ServesOn-last : (seq : ℕ) → number_of (length messages) ≡ seq → (hears : HearsLast stopped seq [] b c)
      → AnswersLast owed seq (answered_last stopped hears.last) s t → ServesAlone owed stopped (taken ++ rest) a c r u
  ServesOn-last seq number =
      subst (λ (n : ℕ). (hears : HearsLast stopped n [] b c) → AnswersLast owed n (answered_last stopped hears.last) s t
      → ServesAlone owed stopped (taken ++ rest) a c r u) number ends-here

-- more that waited was handed on
pub ServesAlone-after : (owed : Owing) (stopped : Stopped) (first taken last : List Parcel) (a b : IntakeState) (q r s t : RelayState) → Relays first q r
    → outs_of first ≡ [] → ServesAlone owed stopped taken a b r s → Relays last s t → outs_of last ≡ []
    → ServesAlone owed stopped (first ++ (taken ++ last)) a b q t
ServesAlone-after owed stopped first taken last a b q r s t before none alone after none_last = record {
  parcels = first ++ (alone.parcels ++ last);
  hands_on = record {
    relays = Relays-then first (alone.parcels ++ last) q r t before (Relays-then alone.parcels last r s t alone.hands_on.relays after);
    conducted = (
      alone.hands_on.conducted.0,
      alone.hands_on.conducted.1,
      subst (λ (l : List Out). AnsweredBy owed (alone.hands_on.conducted.0 ++ answered_last stopped alone.hands_on.conducted.1.last) l) (sym outs)
          alone.hands_on.conducted.2,
    );
  };
  same_notices = notices-append first (alone.parcels ++ last)
      ∙ (ap (λ (l : List (List ℕ)). notices_in first ++ l) (notices-append alone.parcels last
      ∙ (ap (λ (l : List (List ℕ)). l ++ notices_in last) alone.same_notices ∙ sym (notices-append taken last)))
      ∙ sym (notices-append first (taken ++ last)));
  same_late = lates-append first (alone.parcels ++ last)
      ∙ (ap (λ (l : List LateSeen). lates_in first ++ l) (lates-append alone.parcels last
      ∙ (ap (λ (l : List LateSeen). l ++ lates_in last) alone.same_late ∙ sym (lates-append taken last)))
      ∙ sym (lates-append first (taken ++ last)));
} where
  outs : outs_of (first ++ (alone.parcels ++ last)) ≡ outs_of alone.parcels
  outs = outs_of-append first (alone.parcels ++ last)
      ∙ (ap (λ (l : List Out). l ++ outs_of (alone.parcels ++ last)) none
      ∙ (outs_of-append alone.parcels last
      ∙ (ap (λ (l : List Out). outs_of alone.parcels ++ l) none_last ∙ append-nil (outs_of alone.parcels))))
