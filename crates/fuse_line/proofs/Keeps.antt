-- Each step of a pass keeps the rule.
use Rattle.std.proofs.Common.{◌≡◌, ℕ, ◌+◌, ◌-◌, ◌≤◌, Bool, true, false, cond, List, [], ◌∷◌, ◌++◌, set, filter, sym, refl, ap, ◌∙◌, subst}
use Rattle.std.proofs.Common.{⊎_elim, append_assoc, arith}
use Rattle.std.specs.List.Sorted.{IsPermutation}
use Rattle.std.proofs.lemmas.List.Elements.{filter-append}
use Rattle.std.proofs.lemmas.List.Sorted.{IsPermutation-sym, IsPermutation-trans, IsPermutation-append_left}
use mathlib.Core.Option.{some}
use lib.ListN.{get_elem?}
use Rattle.crossbeam_queue.specs.Fifo.{Pushes, Pops, Forks, Merges}
use Rattle.crossbeam_queue.proofs.Lists.{at_set}
use Rattle.atomic_table.proofs.Lists.{set_else}
use Rattle.fuse_line.specs.declared.hand.Hand.{Hand}
use Rattle.fuse_line.specs.declared.hand.Kind.{Kind}
use Rattle.fuse_line.specs.declared.hand.Kind.TheVariants.{First, Inner, Door, Spent}
use Rattle.fuse_line.specs.Hand.{hand, inner_of, joined, with_other, with_put, with_taken}
use Rattle.fuse_line.specs.LineRule.{first_of, puts, takens, SoundAs, IsSound, LineRule}
use Rattle.fuse_line.specs.Permits.{MayPush, MayPop, MayJoin}
use Rattle.fuse_line.specs.Tells.{Tells}
use Rattle.fuse_line.proofs.Alone.{tells}
use Rattle.fuse_line.proofs.Views.{flat_grown, flat_kept, flat_more, flat_joined, total_set, total_more, each_set, each_more}

abbrev put_of : {T : Type 0} → Hand T → List T
put_of v = v.put

abbrev taken_of : {T : Type 0} → Hand T → List T
taken_of v = v.taken

module _ {T : Type 0} (inner : T → Bool) where
  filter_one : (b : Bool) (x : T) → b ≡ false → cond b (x ∷ []) [] ≡ []
  filter_one true x is = cc
  filter_one false x is = refl

  sound_put : (kind : Kind) (others : ℕ) (put taken : List T) (x : T) → MayPush inner kind x → SoundAs inner kind others put taken
      → SoundAs inner kind others (put ++ x ∷ []) taken
  sound_put First others put taken x may s = s
  sound_put Inner others put taken x may s = s
  sound_put Door others put taken x may s = (s.0, filter-append inner put (x ∷ []) ∙ ap (λ l. l ++ filter inner (x ∷ [])) s.1 ∙ filter_one (inner x) x may, s.2)
  sound_put Spent others put taken x may s = absurd may

  sound_taken : (kind : Kind) (others : ℕ) (put taken more : List T) → MayPop kind → SoundAs inner kind others put taken
      → SoundAs inner kind others put (taken ++ more)
  sound_taken First others put taken more may s = s
  sound_taken Inner others put taken more may s = s
  sound_taken Door others put taken more may s = absurd may
  sound_taken Spent others put taken more may s = absurd may

  pub pushes : (n place : ℕ) (v : Hand T) (x : T) → MayPush inner v.kind x → Pushes (LineRule inner) n place v x (λ w. w ≡ with_put v x)
  pushes n place v x may items views room rule at =
      let w : Hand T = with_put v x in
      let put = flat_grown put_of views place v w (x ∷ []) at refl in
      let taken = flat_kept taken_of views place v w at refl in
      let same = append_assoc (takens views) items (x ∷ []) ∙ ap (λ l. l ++ (items ++ x ∷ [])) (sym taken) in
      let more : IsPermutation (puts views ++ x ∷ []) ((takens views ++ items) ++ x ∷ []) = IsPermutation-append_left (x ∷ []) _ _ rule.moved in
      let firsts = total_set (λ u. first_of u.kind) views place v w at in
      let inners = total_set (λ u. inner_of u.kind) views place v w at in
      let others = total_set (λ u. u.others) views place v w at in
      let one = rule.one in
      let counted = rule.counted in (
        w,
        record {
          moved = IsPermutation-trans _ _ _ put (subst (IsPermutation (puts views ++ x ∷ [])) same more);
          one = omega arith;
          counted = omega arith;
          sound = each_set (IsSound inner) views place w (sound_put v.kind v.others v.put v.taken x may (rule.sound place v at)) rule.sound;
        },
        refl,
      )

  pub pops : (place : ℕ) (v : Hand T) → MayPop v.kind
      → Pops (LineRule inner) place v (λ x w. (w ≡ with_taken v x) × ((rest : List T) × Tells inner v (x ∷ rest)))
  pops place v may x items views rule at =
      let w : Hand T = with_taken v x in
      let put = flat_kept put_of views place v w at refl in
      let taken = flat_grown taken_of views place v w (x ∷ []) at refl in
      let less : IsPermutation (takens (set views place w) ++ items) (takens views ++ x ∷ items) =
      subst (IsPermutation (takens (set views place w) ++ items)) (append_assoc (takens views) (x ∷ []) items) (IsPermutation-append_left items _ _ taken) in
      let firsts = total_set (λ u. first_of u.kind) views place v w at in
      let inners = total_set (λ u. inner_of u.kind) views place v w at in
      let others = total_set (λ u. u.others) views place v w at in
      let one = rule.one in
      let counted = rule.counted in (
        w,
        record {
          moved = IsPermutation-trans _ _ _ (subst (λ l. IsPermutation l (takens views ++ x ∷ items)) (sym put) rule.moved) (IsPermutation-sym _ _ less);
          one = omega arith;
          counted = omega arith;
          sound = each_set (IsSound inner) views place w (sound_taken v.kind v.others v.put v.taken (x ∷ []) may (rule.sound place v at)) rule.sound;
        },
        (refl, (items, tells inner place v (x ∷ items) views rule at)),
      )

  -- a pass with nothing comes off one that keeps its items
  split_into : (place : ℕ) (v w r : Hand T) → w.put ≡ v.put → w.taken ≡ v.taken → w.kind ≡ v.kind → r.put ≡ [] → r.taken ≡ []
      → first_of r.kind ≡ 0 → inner_of r.kind + v.others ≤ w.others + r.others
      → (IsSound inner v → IsSound inner w) → IsSound inner r → Forks (LineRule inner) place v w r
  split_into place v w r put taken kind none nothing first counts keeps fresh items views rule at =
      let there : List (Hand T) = set views place w in
      let all_put : puts (there ++ r ∷ []) ≡ puts views = flat_more put_of there r none ∙ flat_kept put_of views place v w at put in
      let all_taken : takens (there ++ r ∷ []) ≡ takens views = flat_more taken_of there r nothing ∙ flat_kept taken_of views place v w at taken in
      let firsts = total_set (λ u. first_of u.kind) views place v w at in
      let inners = total_set (λ u. inner_of u.kind) views place v w at in
      let others = total_set (λ u. u.others) views place v w at in
      let firsts_more = total_more (λ u. first_of u.kind) there r in
      let inners_more = total_more (λ u. inner_of u.kind) there r in
      let others_more = total_more (λ u. u.others) there r in
      let one = rule.one in
      let counted = rule.counted in
      record {
        moved = subst (λ (l : List T × List T). IsPermutation l.0 (l.1 ++ items)) (λ i. (sym all_put i, sym all_taken i)) rule.moved;
        one = omega (arith, ap first_of kind);
        counted = omega (arith, ap inner_of kind);
        sound = each_more (IsSound inner) there r fresh (each_set (IsSound inner) views place w (keeps (rule.sound place v at)) rule.sound);
      }

  sound_first : (kind : Kind) (others others' : ℕ) (put taken : List T) → kind ≡ First → SoundAs inner kind others put taken
      → SoundAs inner kind others' put taken
  sound_first First others others' put taken is s = s
  sound_first Inner others others' put taken is s = cc
  sound_first Door others others' put taken is s = cc
  sound_first Spent others others' put taken is s = cc

  pub splits_inner : (place : ℕ) (v : Hand T) → v.kind ≡ First → Forks (LineRule inner) place v (with_other v) (hand Inner 0 [] [])
  splits_inner place v first =
      split_into place v (with_other v) (hand Inner 0 [] []) refl refl refl refl refl refl (omega arith)
      (λ s. sound_first v.kind v.others _ v.put v.taken first s) refl

  pub splits_door : (place : ℕ) (v : Hand T) → Forks (LineRule inner) place v v (hand Door 0 [] [])
  splits_door place v = split_into place v v (hand Door 0 [] []) refl refl refl refl refl refl (omega arith) (λ s. s) (refl, refl, refl)

  sound_joined : (kind kind' : Kind) (others others' : ℕ) (put taken put' taken' : List T) → MayJoin kind kind' → SoundAs inner kind others put taken
      → SoundAs inner kind' others' put' taken' → SoundAs inner kind (others - inner_of kind') (put ++ put') (taken ++ taken')
  sound_joined First kind' others others' put taken put' taken' may s t = tt
  sound_joined Inner kind' others others' put taken put' taken' may s t = omega (arith, s)
  sound_joined Door Door others others' put taken put' taken' may s t =
      (omega (arith, s.0), filter-append inner put put' ∙ ap (λ l. l ++ filter inner put') s.1 ∙ t.1, ap (λ l. l ++ taken') s.2 ∙ t.2)
  sound_joined Door First others others' put taken put' taken' may s t = cc
  sound_joined Door Inner others others' put taken put' taken' may s t = cc
  sound_joined Door Spent others others' put taken put' taken' may s t = cc
  sound_joined Spent kind' others others' put taken put' taken' may s t = absurd may

  -- what is joined into another is not the first, and counts none
  joins_none : (kind kind' : Kind) (others' : ℕ) (put' taken' : List T) → MayJoin kind kind' → SoundAs inner kind' others' put' taken'
      → (first_of kind' ≡ 0) × (others' ≡ 0)
  joins_none kind Inner others' put' taken' may t = (refl, t)
  joins_none kind Door others' put' taken' may t = (refl, t.0)
  joins_none kind Spent others' put' taken' may t = (refl, t.0)
  joins_none First First others' put' taken' may t = cc
  joins_none Inner First others' put' taken' may t = cc
  joins_none Door First others' put' taken' may t = cc
  joins_none Spent First others' put' taken' may t = absurd may

  pub merges : (place : ℕ) (v : Hand T) (other : ℕ) (w : Hand T) → MayJoin v.kind w.kind
      → Merges (LineRule inner) place v other w (joined v w) (hand Spent 0 [] [])
  merges place v other w may items views rule at apart at' =
      let both : Hand T = joined v w in
      let spent : Hand T = hand Spent 0 [] [] in
      let there : get_elem? views other ≡ some w = ⊎_elim (λ x. absurd (apart x.0)) (λ x. x.1) (at_set views place other both w at') in
      let still : get_elem? (set views other spent) place ≡ some v = set_else views other place spent (λ e. apart (sym e)) ∙ at in
      let after : List (Hand T) = set views place both in
      let put = flat_joined put_of views place other v w both spent at there still (λ e. apart (sym e)) refl refl in
      let taken = flat_joined taken_of views place other v w both spent at there still (λ e. apart (sym e)) refl refl in
      let firsts = total_set (λ u. first_of u.kind) views place v both at in
      let inners = total_set (λ u. inner_of u.kind) views place v both at in
      let others = total_set (λ u. u.others) views place v both at in
      let firsts' = total_set (λ u. first_of u.kind) after other w spent at' in
      let inners' = total_set (λ u. inner_of u.kind) after other w spent at' in
      let others' = total_set (λ u. u.others) after other w spent at' in
      let joined_sound = sound_joined v.kind w.kind v.others w.others v.put v.taken w.put w.taken may (rule.sound place v at) (rule.sound other w there) in
      let none = joins_none v.kind w.kind w.others w.put w.taken may (rule.sound other w there) in
      let one = rule.one in
      let counted = rule.counted in
      record {
        moved = IsPermutation-trans _ _ _ put (IsPermutation-trans _ _ _ rule.moved (IsPermutation-sym _ _ (IsPermutation-append_left items _ _ taken)));
        one = omega (arith, none.0, none.1);
        counted = omega (arith, none.0, none.1);
        sound = each_set (IsSound inner) after other spent (refl, refl, refl)
            (each_set (IsSound inner) views place both joined_sound rule.sound);
      }
