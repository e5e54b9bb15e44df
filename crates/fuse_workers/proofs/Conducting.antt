-- A run on several threads, from what its passes pushed and took.
use Rattle.std.proofs.Common.{◌≡◌, ◌∙◌, ◌++◌, ◌-◌, [], ℕ, true, List, ap, append-nil, refl, subst, sym}
use Rattle.std.specs.Prelude.{filter}
use Rattle.std.proofs.lemmas.List.Sorted.{IsPermutation-refl}
use Rattle.fuse_line.specs.Hand.{hand, inner_of, joined}
use Rattle.fuse_line.specs.Tells.{IsSettled}
use Rattle.fuse_line.specs.declared.hand.Hand.{Hand}
use Rattle.fuse_line.specs.declared.hand.Kind.{Kind}
use Rattle.fuse_line.specs.declared.hand.Kind.TheVariants.{First, Inner}
use Rattle.fuse_reply.specs.Late.{LateSeen}
use Rattle.fuse_reply.specs.Parcel.{is_prompt}
use Rattle.fuse_reply.specs.declared.out.Out.{Out}
use Rattle.fuse_reply.specs.declared.parcel.Parcel.{Parcel}
use Rattle.fuse_workers.specs.Alone.{ServesAlone}
use Rattle.fuse_workers.specs.HandingOn.{AnsweredBy, answered_last}
use Rattle.fuse_workers.specs.Conducting.{Conducts}
use Rattle.fuse_workers.specs.Hearing.{Hears}
use Rattle.atomic_table.specs.Seated.{TableId}
use Rattle.std.specs.List.Sorted.{IsPermutation}
use Rattle.fuse_loop.specs.Lines.{IsAlone, IsDrained, LinesState, lates_in, notices_in}
use Rattle.fuse_core.specs.OnePerMessage.{Owing}
use Rattle.fuse_workers.specs.Pairing.{outs_of}
use Rattle.fuse_loop.specs.Progress.{IntakeState}
use Rattle.fuse_workers.specs.Relays.{IsRelayed, RelayState, Relays}
use Rattle.fuse_workers.specs.Answered.{IsCaller}
use Rattle.fuse_workers.specs.declared.stopped.Stopped.{Stopped}
use Rattle.fuse_core.specs.declared.state.Job.{Job}
use Rattle.fuse_loop.proofs.ItemLists.{filter-all}
use Rattle.fuse_loop.proofs.FrameLines.{notices-append}
use Rattle.fuse_workers.proofs.Pairing.{outs_of-append}
use Rattle.fuse_workers.proofs.Relaying.{Relays-then, lates-append}
use Rattle.fuse_workers.proofs.ServingAlone.{outs-first, outs-none}
use Rattle.fuse_workers.proofs.Working.{Caller-settled}

-- the first pass of frames after the sender's was joined
pub joined-sender : (f v : Hand Parcel) → v.put ≡ [] → f.taken ≡ [] → f.kind ≡ First → v.kind ≡ Inner → f.others ≡ 1 → joined f v ≡ hand First 0 f.put v.taken
joined-sender f v put taken first inner others =
    let a : (f.others - inner_of v.kind) ≡ 0 = ap (λ (n : ℕ). n - inner_of v.kind) others ∙ ap (λ (k : Kind). 1 - inner_of k) inner in
    let b : f.put ++ v.put ≡ f.put = ap (λ (l : List Parcel). f.put ++ l) put ∙ append-nil f.put in
    ap (λ (k : Kind). hand k (f.others - inner_of v.kind) (f.put ++ v.put) (f.taken ++ v.taken)) first
    ∙ (ap (λ (n : ℕ). hand First n (f.put ++ v.put) (f.taken ++ v.taken)) a
    ∙ (ap (λ (l : List Parcel). hand First 0 l (f.taken ++ v.taken)) b
    ∙ ap (λ (l : List Parcel). hand First 0 f.put (l ++ v.taken)) taken))

-- the messages were taken and answered, the sender was joined, and the rest was sent
pub Conducts-answered : (owed : Owing) (stopped : Stopped) (intake intake' : IntakeState) (a b c : RelayState) (jobs : Hand Job) (f v last : Hand Parcel)
    (more : List Parcel) (ms : List (List ℕ)) (hears : Hears stopped ms intake intake') → IsCaller owed (ms ++ answered_last stopped hears.last) jobs f
    → jobs.others ≡ 0 → f.others ≡ 1 → IsSettled (λ _. true) jobs → IsRelayed v a b
    → last ≡ hand First (joined f v).others (joined f v).put ((joined f v).taken ++ more) → Relays more b c → IsSettled is_prompt last
    → Conducts owed stopped intake intake' a c jobs last
Conducts-answered owed stopped intake intake' a b c jobs f v last more ms hears caller alone others settled relayed is sent drained =
    subst (λ (h : Hand Parcel). Conducts owed stopped intake intake' a c jobs h) (sym whole) (record {
      jobs_first = caller.job_kind;
      jobs_alone = alone;
      jobs_settled = settled;
      frames_first = refl;
      frames_alone = refl;
      frames_settled = empty;
      parcels = v.taken ++ more;
      hands_on = record {
        relays = Relays-then v.taken more a b c relayed.relays sent;
        conducted = (
          ms,
          hears,
          Caller-settled owed (ms ++ answered_last stopped hears.last) jobs f (hand First 0 f.put (v.taken ++ more)) caller alone settled refl refl refl empty,
        );
      };
      same_notices = refl;
      same_late = refl;
    })
  where
    whole : last ≡ hand First 0 f.put (v.taken ++ more)
    whole =
        is ∙ ap (λ (h : Hand Parcel). hand First h.others h.put (h.taken ++ more))
        (joined-sender f v relayed.no_put caller.no_taken caller.frame_kind relayed.kind others)

    empty : IsSettled is_prompt (hand First 0 f.put (v.taken ++ more))
    empty = subst (λ (h : Hand Parcel). IsSettled is_prompt h) whole drained

-- the sender was not started, and the caller answered and sent
pub Conducts-alone : (owed : Owing) (stopped : Stopped) (intake intake' : IntakeState) (a b c : RelayState) (jobs : Hand Job) (v last : Hand Parcel)
    (more : List Parcel) → jobs ≡ hand First 0 [] [] → IsRelayed v a b → last ≡ hand First 0 [] (v.taken ++ more)
    → ServesAlone owed stopped more intake intake' b c → IsSettled is_prompt last → Conducts owed stopped intake intake' a c jobs last
Conducts-alone owed stopped intake intake' a b c jobs v last more idle relayed is alone drained =
    subst (λ (j : Hand Job). Conducts owed stopped intake intake' a c j last) (sym idle)
    (subst (λ (h : Hand Parcel). Conducts owed stopped intake intake' a c (hand First 0 [] []) h) (sym is) (record {
      jobs_first = refl;
      jobs_alone = refl;
      jobs_settled = λ first only. IsPermutation-refl [];
      frames_first = refl;
      frames_alone = refl;
      frames_settled = empty;
      parcels = v.taken ++ alone.parcels;
      hands_on = record {
        relays = Relays-then v.taken alone.parcels a b c relayed.relays alone.hands_on.relays;
        conducted = (alone.hands_on.conducted.0, alone.hands_on.conducted.1, answered);
      };
      same_notices = notices-append v.taken alone.parcels
          ∙ (ap (λ (l : List (List ℕ)). notices_in v.taken ++ l) alone.same_notices ∙ sym (notices-append v.taken more));
      same_late = lates-append v.taken alone.parcels
          ∙ (ap (λ (l : List LateSeen). lates_in v.taken ++ l) alone.same_late ∙ sym (lates-append v.taken more));
    }))
  where
    empty : IsSettled is_prompt (hand First 0 [] (v.taken ++ more))
    empty = subst (λ (h : Hand Parcel). IsSettled is_prompt h) is drained

    none : outs_of v.taken ≡ []
    none = outs-first v.taken more (outs-none (v.taken ++ more) empty)

    answered : AnsweredBy owed (alone.hands_on.conducted.0 ++ answered_last stopped alone.hands_on.conducted.1.last) (outs_of (v.taken ++ alone.parcels))
    answered =
        subst (λ (l : List Out). AnsweredBy owed (alone.hands_on.conducted.0 ++ answered_last stopped alone.hands_on.conducted.1.last) l)
        (sym (outs_of-append v.taken alone.parcels ∙ ap (λ (l : List Out). l ++ outs_of alone.parcels) none)) alone.hands_on.conducted.2

-- lines whose first passes are alone are drained
pub IsDrained-alone : (lines : LinesState) (jobs frames : TableId) → IsAlone (λ _. true) jobs lines.jobs → IsAlone is_prompt frames lines.frames
    → IsDrained lines
IsDrained-alone lines jobs frames of_jobs of_frames = record {
  frames_first = of_frames.first;
  frames_alone = of_frames.alone;
  frames_settled = of_frames.settled;
  jobs_first = of_jobs.first;
  jobs_alone = of_jobs.alone;
  jobs_settled = subst (λ (l : List Job). IsPermutation l lines.jobs.hand.taken) (filter-all lines.jobs.hand.put)
      (subst (λ (l : List Job). IsPermutation (filter (λ (x : Job). true) lines.jobs.hand.put) l) (filter-all lines.jobs.hand.taken) of_jobs.settled);
}
