-- The steps of the workers and of the caller: what each leaves true of what they pushed and took.
use Rattle.std.proofs.Common.{◌≡◌, ◌+◌, ℕ, true, List, [], ◌∷◌, ◌++◌, filter, length, map}
use Rattle.std.proofs.Common.{sym, refl, ap, ◌∙◌, subst, append_assoc, append-nil}
use Rattle.std.specs.List.Sorted.{IsPermutation}
use Rattle.std.proofs.lemmas.List.Sorted.{IsPermutation-append_comm, IsPermutation-append_left, IsPermutation-append_right, IsPermutation-map}
use Rattle.std.proofs.lemmas.List.Sorted.{IsPermutation-refl, IsPermutation-sym, IsPermutation-trans}
use Rattle.fuse_line.specs.Hand.{hand, joined, with_other, with_put, with_taken}
use Rattle.fuse_line.specs.Tells.{IsSettled}
use Rattle.fuse_line.specs.declared.hand.Hand.{Hand}
use Rattle.fuse_line.specs.declared.hand.Kind.TheVariants.{First, Inner}
use Rattle.fuse_reply.specs.Parcel.{is_prompt}
use Rattle.fuse_reply.specs.declared.out.Out.{Out}
use Rattle.fuse_reply.specs.declared.parcel.Parcel.{Parcel}
use Rattle.fuse_reply.specs.declared.parcel.Parcel.TheVariants.{Prompt, Notice, Late}
use Rattle.fuse_core.specs.declared.state.Job.{Job}
use Rattle.fuse_core.specs.OnePerMessage.{Owing, number_of}
use Rattle.fuse_workers.specs.Pairing.{InTurn, Pairs, numbered, outs_of}
use Rattle.fuse_workers.specs.Answered.{PromptAnswers, IsCaller, IsServed, pair_of}
use Rattle.fuse_workers.proofs.Pairing.{InTurn-append, InTurn-one, Pairs-append, Pairs-in_turn, Pairs-left, Pairs-one}
use Rattle.fuse_workers.proofs.Pairing.{Pairs-passing, Pairs-right, numbered-more, outs_of-append, outs_of-filtered}

-- what answers is a prompt
pub PromptAnswers-prompt : (owed : Owing) (asked : ℕ × List ℕ) (parcel : Parcel) → PromptAnswers owed asked parcel → is_prompt parcel ≡ true
PromptAnswers-prompt owed asked (Prompt seq out) h = refl
PromptAnswers-prompt owed asked (Notice frame) h = absurd h
PromptAnswers-prompt owed asked (Late frame) h = absurd h

-- what prompts answer is owed what they hold
module _ (owed : Owing) where
  abbrev OutOwed : (asked : ℕ × List ℕ) → (b a : List Parcel) → Parcel → Type 0
  OutOwed asked b a parcel =
      (out : Out) × (outs_of (b ++ parcel ∷ a) ≡ outs_of b ++ out ∷ outs_of a) × owed asked.0 asked.1 out

  out_owed : (asked : ℕ × List ℕ) (b a : List Parcel) (parcel : Parcel) → PromptAnswers owed asked parcel → OutOwed asked b a parcel
  out_owed asked b a (Prompt seq out) h = (out, outs_of-append b (Prompt seq out ∷ a), h.1)
  out_owed asked b a (Notice frame) h = absurd h
  out_owed asked b a (Late frame) h = absurd h

  pub Pairs-outs : (asked : List (ℕ × List ℕ)) (parcels : List Parcel) → Pairs (PromptAnswers owed) asked parcels
      → Pairs (λ (p : ℕ × List ℕ) (o : Out). owed p.0 p.1 o) asked (outs_of parcels)
  Pairs-outs [] parcels h = ap outs_of h
  Pairs-outs (x ∷ asked) parcels h =
      let there = out_owed x h.0 h.2 h.1 h.4 in (
        outs_of h.0,
        there.0,
        outs_of h.2,
        ap outs_of h.3 ∙ there.1,
        there.2,
        subst (Pairs (λ (p : ℕ × List ℕ) (o : Out). owed p.0 p.1 o) asked) (outs_of-append h.0 h.2) (Pairs-outs asked (h.0 ++ h.2) h.5),
      )

map_more : {X Y : Type 0} (f : X → Y) (xs us : List X) → map f (xs ++ us) ≡ map f xs ++ map f us
map_more f [] us = refl
map_more f (x ∷ xs) us = ap (λ l. f x ∷ l) (map_more f xs us)

filter_any : {X : Type 0} (xs : List X) → filter (λ _. true) xs ≡ xs
filter_any [] = refl
filter_any (x ∷ xs) = ap (λ l. x ∷ l) (filter_any xs)

-- what comes in the middle may come last
last_for_middle : {X : Type 0} (xs ds us : List X) → IsPermutation ((xs ++ ds) ++ us) ((xs ++ us) ++ ds)
last_for_middle xs ds us =
    rw (append_assoc xs ds us, append_assoc xs us ds) (IsPermutation-append_right xs _ _ (IsPermutation-append_comm ds us))

module _ (owed : Owing) where
  -- a worker that has done nothing yet
  pub Served-start : IsServed owed (hand Inner 0 [] []) (hand Inner 0 [] [])
  Served-start = record { job_kind = refl; frame_kind = refl; no_put = refl; no_taken = refl; each = refl }

  -- a worker takes a job, and pushes what it is owed
  pub Served-next : (j : Hand Job) (f : Hand Parcel) (x : Job) (out : Out) → IsServed owed j f → owed x.seq x.message out
      → IsServed owed (with_taken j x) (with_put f (Prompt x.seq out))
  Served-next j f x out s pays = record {
    job_kind = s.job_kind;
    frame_kind = s.frame_kind;
    no_put = s.no_put;
    no_taken = s.no_taken;
    each = subst (λ (l : List (ℕ × List ℕ)). InTurn (PromptAnswers owed) l (f.put ++ Prompt x.seq out ∷ [])) (sym (map_more pair_of j.taken (x ∷ [])))
        (InTurn-append (PromptAnswers owed) (map pair_of j.taken) (pair_of x ∷ []) f.put (Prompt x.seq out ∷ []) s.each
        (InTurn-one (PromptAnswers owed) (pair_of x) (Prompt x.seq out) (refl, pays)));
  }

  -- a caller that has done nothing yet
  pub Caller-start : IsCaller owed [] (hand First 0 [] []) (hand First 0 [] [])
  Caller-start = record { job_kind = refl; frame_kind = refl; no_taken = refl; direct = []; all = IsPermutation-refl []; each = refl }

  module _ (ms : List (List ℕ)) (j : Hand Job) (f : Hand Parcel) where
    -- how many other passes are counted says nothing of the caller
    pub Caller-others : (n k : ℕ) → IsCaller owed ms j f → IsCaller owed ms (record j { others = n }) (record f { others = k })
    Caller-others n k s = record {
      job_kind = s.job_kind;
      frame_kind = s.frame_kind;
      no_taken = s.no_taken;
      direct = s.direct;
      all = s.all;
      each = s.each;
    }

    -- a pass is split off either of the caller's
    pub Caller-split : IsCaller owed ms j f
        → IsCaller owed ms (with_other j) f × IsCaller owed ms j (with_other f) × IsCaller owed ms (with_other j) (with_other f)
    Caller-split s = (Caller-others (j.others + 1) f.others s, Caller-others j.others (f.others + 1) s, Caller-others (j.others + 1) (f.others + 1) s)

    -- other passes of the same kinds that pushed and took the same
    pub Caller-same : (j' : Hand Job) (f' : Hand Parcel) → j'.kind ≡ j.kind → j'.put ≡ j.put → j'.taken ≡ j.taken
        → f'.kind ≡ f.kind → f'.put ≡ f.put → f'.taken ≡ f.taken → IsCaller owed ms j f → IsCaller owed ms j' f'
    Caller-same j' f' kind put taken kind' put' taken' s =
        subst (λ (h : Hand Job × Hand Parcel). IsCaller owed ms h.0 h.1)
        (λ i. (
          hand (sym kind i) j'.others (sym put i) (sym taken i),
          hand (sym kind' i) f'.others (sym put' i) (sym taken' i),
        ))
        (Caller-others j'.others f'.others s)

    -- the next message is pushed as a job
    pub Caller-pushed : (m : List ℕ) (x : Job) → IsCaller owed ms j f → number_of (length ms) ≡ x.seq → x.message ≡ m
        → IsCaller owed (ms ++ m ∷ []) (with_put j x) f
    Caller-pushed m x s number message =
        let next : List (ℕ × List ℕ) = (number_of (length ms), m) ∷ [] in
        let is : next ≡ pair_of x ∷ [] = λ i. (number i, sym message i) ∷ [] in
        let more : IsPermutation (numbered 0 ms ++ next) ((map pair_of j.put ++ s.direct) ++ next) = IsPermutation-append_left next _ _ s.all in
        let turned : IsPermutation ((map pair_of j.put ++ s.direct) ++ next) ((map pair_of j.put ++ next) ++ s.direct) =
        last_for_middle (map pair_of j.put) s.direct next in
        let put : map pair_of j.put ++ next ≡ map pair_of (j.put ++ x ∷ []) =
        ap (λ (l : List (ℕ × List ℕ)). map pair_of j.put ++ l) is ∙ sym (map_more pair_of j.put (x ∷ [])) in
        record {
          job_kind = s.job_kind;
          frame_kind = s.frame_kind;
          no_taken = s.no_taken;
          direct = s.direct;
          all = subst (λ (l : List (ℕ × List ℕ)). IsPermutation l (map pair_of (j.put ++ x ∷ []) ++ s.direct)) (sym (numbered-more ms m))
              (subst (λ (l : List (ℕ × List ℕ)). IsPermutation (numbered 0 ms ++ next) (l ++ s.direct)) put (IsPermutation-trans _ _ _ more turned));
          each = s.each;
        }

    -- what the caller took, and more, answered
    each_more : (s : IsCaller owed ms j f) (more : List Job) (parcels : List Parcel) → Pairs (PromptAnswers owed) (map pair_of more) parcels
        → Pairs (PromptAnswers owed) (map pair_of (j.taken ++ more) ++ s.direct) (f.put ++ parcels)
    each_more s more parcels pairs =
        let mine : List (ℕ × List ℕ) = map pair_of j.taken in
        let theirs : List (ℕ × List ℕ) = map pair_of more in
        let both = Pairs-append (PromptAnswers owed) (mine ++ s.direct) theirs f.put parcels s.each pairs in
        subst (λ (l : List (ℕ × List ℕ)). Pairs (PromptAnswers owed) (l ++ s.direct) (f.put ++ parcels)) (sym (map_more pair_of j.taken more))
        (Pairs-left (PromptAnswers owed) ((mine ++ s.direct) ++ theirs) ((mine ++ theirs) ++ s.direct)
        (last_for_middle mine s.direct theirs) (f.put ++ parcels) both)

    -- the caller answers the next message itself
    pub Caller-answered : (m : List ℕ) (out : Out) → IsCaller owed ms j f → owed (number_of (length ms)) m out
        → IsCaller owed (ms ++ m ∷ []) j (with_put f (Prompt (number_of (length ms)) out))
    Caller-answered m out s pays =
        let next : ℕ × List ℕ = (number_of (length ms), m) in
        let parcel : Parcel = Prompt (number_of (length ms)) out in
        let more : IsPermutation (numbered 0 ms ++ next ∷ []) ((map pair_of j.put ++ s.direct) ++ next ∷ []) =
        IsPermutation-append_left (next ∷ []) _ _ s.all in
        let both = Pairs-append (PromptAnswers owed) (map pair_of j.taken ++ s.direct) (next ∷ []) f.put (parcel ∷ []) s.each
        (Pairs-one (PromptAnswers owed) next parcel (refl, pays)) in
        record {
          job_kind = s.job_kind;
          frame_kind = s.frame_kind;
          no_taken = s.no_taken;
          direct = s.direct ++ next ∷ [];
          all = subst (λ (l : List (ℕ × List ℕ)). IsPermutation l (map pair_of j.put ++ (s.direct ++ next ∷ []))) (sym (numbered-more ms m))
              (subst (IsPermutation (numbered 0 ms ++ next ∷ [])) (append_assoc (map pair_of j.put) s.direct (next ∷ [])) more);
          each = subst (λ (l : List (ℕ × List ℕ)). Pairs (PromptAnswers owed) l (f.put ++ parcel ∷ []))
              (append_assoc (map pair_of j.taken) s.direct (next ∷ [])) both;
        }

    -- a worker's passes are joined into the caller's
    pub Caller-joined : (j' : Hand Job) (f' : Hand Parcel) → IsServed owed j' f' → IsCaller owed ms j f → IsCaller owed ms (joined j j') (joined f f')
    Caller-joined j' f' served s =
        let put : j.put ++ j'.put ≡ j.put = ap (λ (l : List Job). j.put ++ l) served.no_put ∙ append-nil j.put in
        record {
          job_kind = s.job_kind;
          frame_kind = s.frame_kind;
          no_taken = ap (λ (l : List Parcel). l ++ f'.taken) s.no_taken ∙ served.no_taken;
          direct = s.direct;
          all = subst (λ (l : List Job). IsPermutation (numbered 0 ms) (map pair_of l ++ s.direct)) (sym put) s.all;
          each = each_more s j'.taken f'.put (Pairs-in_turn (PromptAnswers owed) (map pair_of j'.taken) f'.put served.each);
        }

    -- the caller takes a job that no worker took, and pushes what it is owed
    pub Caller-rest : (x : Job) (out : Out) → IsCaller owed ms j f → owed x.seq x.message out
        → IsCaller owed ms (with_taken j x) (with_put f (Prompt x.seq out))
    Caller-rest x out s pays = record {
      job_kind = s.job_kind;
      frame_kind = s.frame_kind;
      no_taken = s.no_taken;
      direct = s.direct;
      all = s.all;
      each = each_more s (x ∷ []) (Prompt x.seq out ∷ []) (Pairs-one (PromptAnswers owed) (pair_of x) (Prompt x.seq out) (refl, pays));
    }

    -- where all jobs and all prompts were taken, one out was taken for each message, and is owed to it
    pub Caller-settled : (v : Hand Parcel) → IsCaller owed ms j f → j.others ≡ 0 → IsSettled (λ _. true) j
        → v.kind ≡ First → v.others ≡ 0 → v.put ≡ f.put → IsSettled is_prompt v
        → Pairs (λ (p : ℕ × List ℕ) (o : Out). owed p.0 p.1 o) (numbered 0 ms) (outs_of v.taken)
    Caller-settled v s alone settled first none put prompts =
        let taken : List (ℕ × List ℕ) = map pair_of j.taken in
        let moved : IsPermutation j.put j.taken =
        subst (λ (l : List Job × List Job). IsPermutation l.0 l.1) (λ i. (filter_any j.put i, filter_any j.taken i)) (settled s.job_kind alone) in
        let all : IsPermutation (numbered 0 ms) (taken ++ s.direct) =
        IsPermutation-trans _ _ _ s.all (IsPermutation-append_left s.direct _ _ (IsPermutation-map pair_of j.put j.taken moved)) in
        let each : Pairs (PromptAnswers owed) (numbered 0 ms) f.put =
        Pairs-left (PromptAnswers owed) (taken ++ s.direct) (numbered 0 ms) (IsPermutation-sym _ _ all) f.put s.each in
        let whole : filter is_prompt v.put ≡ f.put =
        ap (filter is_prompt) put ∙ Pairs-passing (PromptAnswers owed) is_prompt (PromptAnswers-prompt owed) (numbered 0 ms) f.put each in
        let same : IsPermutation f.put (filter is_prompt v.taken) =
        subst (λ (l : List Parcel). IsPermutation l (filter is_prompt v.taken)) whole (prompts first none) in
        subst (Pairs (λ (p : ℕ × List ℕ) (o : Out). owed p.0 p.1 o) (numbered 0 ms)) (outs_of-filtered v.taken)
        (Pairs-outs owed (numbered 0 ms) (filter is_prompt v.taken)
        (Pairs-right (PromptAnswers owed) (numbered 0 ms) f.put (filter is_prompt v.taken) same each))

-- a caller that has done nothing yet, but for the sender's pass
pub Caller-idle : (owed : Owing) (j : Hand Job) (f : Hand Parcel) → j ≡ hand First 0 [] [] → f ≡ hand First 1 [] [] → IsCaller owed [] j f
Caller-idle owed j f idle split =
    subst (λ (v : Hand Job). IsCaller owed [] v f) (sym idle)
    (subst (λ (v : Hand Parcel). IsCaller owed [] (hand First 0 [] []) v) (sym split) (record {
      job_kind = refl;
      frame_kind = refl;
      no_taken = refl;
      direct = [];
      all = IsPermutation-refl [];
      each = refl;
    }))
