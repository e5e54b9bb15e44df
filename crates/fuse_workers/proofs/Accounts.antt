-- One frame or note for each message, at once or later: how the two stand to each other.
use Rattle.std.proofs.Common.{◌≡◌, ℕ, suc, List, [], ◌∷◌, inl, inr, length, map, refl, subst}
use Rattle.std.specs.Prelude.{remove}
use Rattle.std.proofs.lemmas.Option.{none-some}
use Rattle.fuse_wire.specs.Sink.{Note as Noted}
use Rattle.fuse_wire.specs.declared.newtypes.RequestId.{RequestId}
use Rattle.fuse_reply.specs.Late.{LateSeen}
use Rattle.fuse_reply.specs.declared.out.Out.{Out}
use Rattle.fuse_reply.specs.declared.out.Out.TheVariants.{Deferred}
use Rattle.fuse_core.specs.Marks.{late_tag}
use Rattle.fuse_core.specs.AreMatched.{AreMatched, Tag}
use Rattle.fuse_core.specs.OnePerMessage.{OnePerMessage, Owing, UpToOrder}
use Rattle.fuse_workers.specs.OnePerMessageLater.{OnePerMessageLater}
use Rattle.fuse_loop.specs.Progress.{LeavesOut}
use Rattle.fuse_workers.specs.Relays.{late_out}
use Rattle.fuse_loop.proofs.Quieting.{LeavesOut-none}

-- where nothing is left out, all is kept
LeavesOut-all : {A : Type 0} (xs : List A) → LeavesOut [] xs xs
LeavesOut-all [] = (refl, refl)
LeavesOut-all (x ∷ xs) = inl (xs, refl, LeavesOut-all xs)

-- what was accounted for at once is so where replies may come later
pub OnePerMessageLater-prompt : {owed : Owing} {broken : List ℕ → Type 0} {ms fs : List (List ℕ)} {ns : List Noted} {lost : List Out}
    → UpToOrder owed broken ms fs ns lost → OnePerMessageLater owed broken ms fs ns lost
OnePerMessageLater-prompt {fs = fs} {lost = lost} each = record {
  at_once = fs;
  marks = [];
  lost_at_once = lost;
  gone = [];
  late = [];
  lost_late = [];
  each = each;
  sent = LeavesOut-all fs;
  missed = LeavesOut-all lost;
  parted = (refl, refl);
  replies = tt;
  matched = tt;
}

-- no message was taken
pub OnePerMessageLater-none : {owed : Owing} {broken : List ℕ → Type 0} → OnePerMessageLater owed broken [] [] [] []
OnePerMessageLater-none = OnePerMessageLater-prompt (refl, refl, refl, refl)

module _ (owed : Owing) (broken : List ℕ → Type 0) (never : (seq : ℕ) (m : List ℕ) (number : ℕ) (id : RequestId) → owed seq m (Deferred number id) → ⊥) where
  -- no message has a mark to which none is owed
  unmarked : (place : ℕ) (ms fs : List (List ℕ)) (ns marks : List Noted) (lost : ℕ) → OnePerMessage owed broken place ms fs ns marks lost → marks ≡ []
  unmarked place [] fs ns marks lost each = each.2
  unmarked place (m ∷ ms) fs ns marks lost (inl p) = unmarked (suc place) ms (remove fs p.0) ns marks lost p.4
  unmarked place (m ∷ ms) fs ns marks lost (inr (inl p)) = unmarked (suc place) ms fs (remove ns p.0) marks lost p.4
  unmarked place (m ∷ ms) fs ns marks lost (inr (inr (inl p))) = absurd (never _ m _ _ p.3)
  unmarked place (m ∷ ms) fs ns marks lost (inr (inr (inr p))) = unmarked (suc place) ms fs ns marks p.0 p.3

  -- so none comes later, and each was accounted for at once
  pub UpToOrder-from_later : {ms fs : List (List ℕ)} {ns : List Noted} {lost : List Out} → OnePerMessageLater owed broken ms fs ns lost
      → UpToOrder owed broken ms fs ns lost
  UpToOrder-from_later {ms} {fs} {ns} {lost} later =
      subst (λ (l : List Noted × List (List ℕ) × List Out). OnePerMessage owed broken 0 ms l.1 ns l.0 (length l.2))
      (λ i. (none_marked i, all_sent i, all_missed i)) later.each
    where
      none_marked : later.marks ≡ []
      none_marked = unmarked 0 ms later.at_once ns later.marks (length later.lost_at_once) later.each

      no_late : (gone : List LateSeen) → AreMatched [] (map late_tag gone) → gone ≡ []
      no_late [] matched = refl
      no_late (l ∷ gone) matched = absurd (none-some _ matched.1)

      none_gone : later.gone ≡ []
      none_gone = no_late later.gone (subst (λ (marks : List Tag). AreMatched marks (map late_tag later.gone)) none_marked later.matched)

      none : (later.late ≡ []) × (later.lost_late ≡ [])
      none = subst (λ (gone : List LateSeen). LeavesOut later.lost_late gone later.late) none_gone later.parted

      all_sent : later.at_once ≡ fs
      all_sent = LeavesOut-none fs later.at_once
          (subst (λ (late : List LateSeen). LeavesOut (map (λ (l : LateSeen). l.frame) late) fs later.at_once) none.0 later.sent)

      all_missed : later.lost_at_once ≡ lost
      all_missed = LeavesOut-none lost later.lost_at_once
          (subst (λ (late : List LateSeen). LeavesOut (map late_out late) lost later.lost_at_once) none.1 later.missed)
