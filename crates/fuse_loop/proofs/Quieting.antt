-- A stretch in which the sink refused nothing.
use Rattle.std.proofs.Common.{◌≡◌, ◌+◌, ◌≤◌, ◌<◌, ◌++◌, ℕ, List, [], ◌∷◌, sym, ◌∙◌, ap}
use Rattle.std.proofs.Common.{subst, arith, length, inl, inr}
use Rattle.std.proofs.lemmas.List.{length-map, nil_from_length}
use Rattle.fuse_wire.specs.Faults.{last_count}
use Rattle.fuse_wire.specs.Sink.{Note}
use Rattle.fuse_reply.specs.declared.out.Out.{Out}
use Rattle.fuse_reply.specs.declared.out.Out.TheVariants.{Frame}
use Rattle.fuse_loop.specs.Progress.{Progress, Moves, LeavesOut, Quiet, PassesOnAll, is_notice, notices}
use Rattle.fuse_loop.proofs.ItemLists.{filter-shorter}

-- where nothing is left out, all is kept
pub LeavesOut-none : {A : Type 0} (items kept : List A) → LeavesOut [] items kept → kept ≡ items
LeavesOut-none [] kept p = p.0
LeavesOut-none {A} (f ∷ fs) kept (inl p) = p.1 ∙ ap (λ (ys : List A). f ∷ ys) (LeavesOut-none fs p.0 p.2)
LeavesOut-none (f ∷ fs) kept (inr p) = absurd (let some = p.1 in let no : ⊥ = cc in no)

-- nothing was refused where the sink's count did not rise
pub refused-none : {received : ℕ} {sent : List (List ℕ)} {notes : List Note} {lost : List Out} {p q : Progress}
    (moved : Moves received sent notes lost p q) → Quiet p.sink q.sink → length moved.refused ≡ 0
refused-none {received} {sent} {notes} {lost} {p} {q} moved quiet =
    let low : q.sink.faults < last_count = quiet.counts in
    let same : q.sink.faults ≡ p.sink.faults = quiet.same in
    let cause : length moved.refused + p.sink.faults ≤ q.sink.faults = moved.cause low in omega arith

-- so each notice that was taken off the line was appended
pub PassesOnAll-quiet : {received : ℕ} {sent : List (List ℕ)} {notes : List Note} {lost : List Out} {p q : Progress}
    → Moves received sent notes lost p q → Quiet p.sink q.sink → PassesOnAll p q
PassesOnAll-quiet {received} {sent} {notes} {lost} {p} {q} moved quiet = record {
  appended = moved.appended;
  notes = notes;
  written = moved.written;
  line = moved.passed_on.line ∙ ap (λ (x : List (List ℕ)). p.unasked ++ x) (sym
      (LeavesOut-none moved.passed_on.taken (notices moved.appended)
      (subst (λ (x : List (List ℕ)). LeavesOut x moved.passed_on.taken (notices moved.appended)) none_dropped moved.passed_on.each)));
} where
  none_dropped : moved.passed_on.dropped ≡ []
  none_dropped = nil_from_length moved.passed_on.dropped (omega (
    arith,
    length-map moved.passed_on.dropped Frame,
    ap (λ (x : List Out). length x) moved.passed_on.all_dropped,
    filter-shorter is_notice moved.refused,
    refused-none moved quiet,
  ))
