-- What comes off a line of frames whose first pass is alone.
use Rattle.std.proofs.Common.{◌≡◌, ◌∙◌, ◌++◌, ℕ, List, [], ◌∷◌, ap, append-nil, append_assoc, arith, length, length-append, refl, subst, sym}
use Rattle.std.proofs.Common.{false, Err, IfOk, MatchResult, Ok, Result}
use Rattle.std.specs.Prelude.{filter}
use Rattle.std.specs.List.Sorted.{IsPermutation}
use Rattle.std.proofs.lemmas.List.Sorted.{length_permutation}
use Rattle.atomic_table.specs.Seated.{TableId}
use Rattle.fuse_line.specs.Hand.{with_taken}
use Rattle.fuse_line.specs.Seen.{Seen}
use Rattle.fuse_line.specs.Tells.{Tells}
use Rattle.fuse_line.specs.declared.hand.Hand.{Hand}
use Rattle.fuse_line.specs.declared.hand.Kind.TheVariants.{First}
use Rattle.fuse_reply.specs.Parcel.{is_prompt}
use Rattle.fuse_reply.specs.declared.out.Out.{Out}
use Rattle.fuse_reply.specs.declared.parcel.Parcel.{Parcel}
use Rattle.fuse_reply.specs.declared.parcel.Parcel.TheVariants.{Notice, Prompt, Late}
use Rattle.fuse_wire.specs.Sink.{SinkState}
use Rattle.fuse_wire.specs.Source.{SourceState}
use Rattle.fuse_loop.specs.Lines.{IsAlone, notice_in, notices_in}
use Rattle.fuse_loop.specs.Progress.{NoticesAlone, OutletState, PassesOnParcel, Progress, progress}
use Rattle.fuse_loop.specs.declared.transcript.Transcript.{Transcript}
use Rattle.fuse_loop.proofs.ItemLists.{filter-both}
use Rattle.fuse_loop.proofs.Moving.{NoticesAlone-next}

-- no prompt does, since each that was pushed was taken
no_prompt : (v : Hand Parcel) (seq : ℕ) (out : Out) (rest : List Parcel) → v.kind ≡ First → v.others ≡ 0
    → IsPermutation (filter is_prompt v.put) (filter is_prompt v.taken) → Tells is_prompt v (Prompt seq out ∷ rest) → ⊥
no_prompt v seq out rest first alone settled tells =
    let after = v.taken ++ Prompt seq out ∷ rest in
    omega (
      arith,
      length_permutation (filter is_prompt v.put) (filter is_prompt after) (tells first alone),
      length_permutation (filter is_prompt v.put) (filter is_prompt v.taken) settled,
      ap (λ (l : List Parcel). length l) (filter-both is_prompt v.taken (Prompt seq out ∷ rest)),
      length-append (filter is_prompt v.taken) (filter is_prompt (Prompt seq out ∷ rest)),
    )

pub unprompted : (v : Hand Parcel) (parcel : Parcel) (rest : List Parcel) → v.kind ≡ First → v.others ≡ 0
    → IsPermutation (filter is_prompt v.put) (filter is_prompt v.taken) → Tells is_prompt v (parcel ∷ rest) → is_prompt parcel ≡ false
unprompted v (Prompt seq out) rest first alone settled tells = absurd (no_prompt v seq out rest first alone settled tells)
unprompted v (Notice frame) rest first alone settled tells = refl
unprompted v (Late frame) rest first alone settled tells = refl

-- any other that was taken leaves the prompts as they are
pub settled-unprompted : (v : Hand Parcel) (parcel : Parcel) → is_prompt parcel ≡ false → IsPermutation (filter is_prompt v.put) (filter is_prompt v.taken)
    → IsPermutation (filter is_prompt v.put) (filter is_prompt (v.taken ++ parcel ∷ []))
settled-unprompted v (Prompt seq out) other settled = absurd (let wrong : ⊥ = cc in wrong)
settled-unprompted v (Notice frame) other settled =
    subst (IsPermutation (filter is_prompt v.put)) (sym (filter-both is_prompt v.taken (Notice frame ∷ []) ∙ append-nil (filter is_prompt v.taken))) settled
settled-unprompted v (Late frame) other settled =
    subst (IsPermutation (filter is_prompt v.put)) (sym (filter-both is_prompt v.taken (Late frame ∷ []) ∙ append-nil (filter is_prompt v.taken))) settled

-- the first pass of a line stays alone where it took a parcel or found none
pub popped-alone : (line : TableId) (old new : Seen Parcel) (popped : Result Parcel TableId) → IsAlone is_prompt line old → new.line ≡ line
    → MatchResult popped (λ parcel. new.hand ≡ with_taken old.hand parcel) (λ _. new.hand ≡ old.hand)
    → IfOk popped (λ parcel. (rest : List Parcel) × Tells is_prompt old.hand (parcel ∷ rest)) → IsAlone is_prompt line new
popped-alone line old new (Err found) a at hand front = record {
  line_is = at;
  first = ap (λ (v : Hand Parcel). v.kind) hand ∙ a.first;
  alone = ap (λ (v : Hand Parcel). v.others) hand ∙ a.alone;
  settled = subst (λ (v : Hand Parcel). IsPermutation (filter is_prompt v.put) (filter is_prompt v.taken)) (sym hand) a.settled;
}
popped-alone line old new (Ok parcel) a at hand front = record {
  line_is = at;
  first = ap (λ (v : Hand Parcel). v.kind) hand ∙ a.first;
  alone = ap (λ (v : Hand Parcel). v.others) hand ∙ a.alone;
  settled = subst (λ (v : Hand Parcel). IsPermutation (filter is_prompt v.put) (filter is_prompt v.taken)) (sym hand)
      (settled-unprompted old.hand parcel (unprompted old.hand parcel front.0 a.first a.alone a.settled front.1) a.settled);
}

-- and what it took is no prompt
pub popped-unprompted : (line : TableId) (old new : Seen Parcel) (popped : Result Parcel TableId) → IsAlone is_prompt line old → new.line ≡ line
    → MatchResult popped (λ parcel. new.hand ≡ with_taken old.hand parcel) (λ _. new.hand ≡ old.hand)
    → IfOk popped (λ parcel. (rest : List Parcel) × Tells is_prompt old.hand (parcel ∷ rest))
    → MatchResult popped (λ parcel. (new ≡ record old { hand = with_taken old.hand parcel }) × (is_prompt parcel ≡ false)) (λ _. new ≡ old)
popped-unprompted line old new (Err found) a at hand front = λ i. record { line = (at ∙ sym a.line_is) i; hand = hand i }
popped-unprompted line old new (Ok parcel) a at hand front =
    (λ i. record { line = (at ∙ sym a.line_is) i; hand = hand i }, unprompted old.hand parcel front.0 a.first a.alone a.settled front.1)

-- the notices of two lists
pub notices-append : (xs ys : List Parcel) → notices_in (xs ++ ys) ≡ notices_in xs ++ notices_in ys
notices-append [] ys = refl
notices-append (x ∷ xs) ys =
    ap (λ (l : List (List ℕ)). notice_in x ++ l) (notices-append xs ys) ∙ sym (append_assoc (notice_in x) (notices_in xs) (notices_in ys))

-- what was handed to the sink of a line without prompts is a notice more, or nothing
handed-parcel : (source : SourceState) (counts : Transcript) (start : Progress) (taken : List Parcel) (parcel : Parcel) (a b : OutletState)
    → is_prompt parcel ≡ false → PassesOnParcel parcel a b → NoticesAlone start (progress source a.sink counts (notices_in taken))
    → NoticesAlone start (progress source b.sink counts (notices_in (taken ++ parcel ∷ [])))
handed-parcel source counts start taken (Prompt seq out) a b other sends so_far = absurd (let wrong : ⊥ = cc in wrong)
handed-parcel source counts start taken (Notice frame) a b other sends so_far =
    NoticesAlone-next sends.sending frame start _ _ so_far sends.in_range sends.aside sends.sent refl (notices-append taken (Notice frame ∷ [])) refl
handed-parcel source counts start taken (Late frame) a b other same so_far =
    subst (λ (s : SinkState × List (List ℕ)). NoticesAlone start (progress source s.0 counts s.1))
    (λ i. (ap (λ (o : OutletState). o.sink) (sym same) i, (sym (notices-append taken (Late frame ∷ []) ∙ append-nil (notices_in taken))) i)) so_far

pub NoticesAlone-parcel : (source : SourceState) (counts : Transcript) (start : Progress) (old new : Seen Parcel) (parcel : Parcel) (a b : OutletState)
    → (new ≡ record old { hand = with_taken old.hand parcel }) × (is_prompt parcel ≡ false) → PassesOnParcel parcel a b
    → NoticesAlone start (progress source a.sink counts (notices_in old.hand.taken))
    → NoticesAlone start (progress source b.sink counts (notices_in new.hand.taken))
NoticesAlone-parcel source counts start old new parcel a b next sends so_far =
    subst (λ (l : List (List ℕ)). NoticesAlone start (progress source b.sink counts l)) (sym (ap (λ (s : Seen Parcel). notices_in s.hand.taken) next.0))
    (handed-parcel source counts start old.hand.taken parcel a b next.1 sends so_far)

-- and the counts of what was handed in are kept
pub counts-parcel : (parcel : Parcel) (a b : OutletState) → is_prompt parcel ≡ false → PassesOnParcel parcel a b → b.counts ≡ a.counts
counts-parcel (Prompt seq out) a b other sends = absurd (let wrong : ⊥ = cc in wrong)
counts-parcel (Notice frame) a b other sends = sends.counts
counts-parcel (Late frame) a b other same = ap (λ (o : OutletState). o.counts) same
