-- What was handed on, parted into what went at once and the late frames that were let go.
use Rattle.std.proofs.Common.{◌≡◌, ℕ, List, [], ◌∷◌, ap, inl, inr, map, refl, subst, sym}
use Rattle.fuse_wire.specs.Sink.{Note as Noted}
use Rattle.fuse_reply.specs.Late.{LateSeen}
use Rattle.fuse_reply.specs.declared.out.Out.{Out}
use Rattle.fuse_reply.specs.declared.out.Out.TheVariants.{Frame, Note, Deferred}
use Rattle.fuse_core.specs.AreMatched.{Tag}
use Rattle.fuse_workers.specs.Pairing.{Parts}
use Rattle.fuse_loop.specs.Progress.{LeavesOut}
use Rattle.fuse_workers.specs.Relays.{late_out}
use Rattle.fuse_workers.proofs.Relaying.{gone_out}

-- the late frames, without the tags that they went under
abbrev pub frames_gone : List (Tag × LateSeen) → List LateSeen
frames_gone gone = map (λ l. l.1) gone

-- the bytes of late frames
abbrev pub bytes_of : List LateSeen → List (List ℕ)
bytes_of late = map (λ l. l.frame) late

pub record Split (gone : List (Tag × LateSeen)) (prompts : List Out) (frames : List (List ℕ)) (notes marks : List Noted) (lost : List Out) : Type 0 where
  pub at_once : List (List ℕ)
  pub lost_at_once : List Out
  pub late : List LateSeen
  pub lost_late : List LateSeen
  pub sent : LeavesOut (bytes_of late) frames at_once
  pub missed : LeavesOut (map late_out lost_late) lost lost_at_once
  pub parted : LeavesOut lost_late (frames_gone gone) late
  pub parts : Parts prompts at_once notes marks lost_at_once

none-split : (gone : List (Tag × LateSeen)) (prompts : List Out) (frames : List (List ℕ)) (notes marks : List Noted) (lost : List Out)
    → prompts ≡ [] → map gone_out gone ≡ [] → (frames ≡ []) × (notes ≡ []) × (marks ≡ []) × (lost ≡ []) → Split gone prompts frames notes marks lost
none-split [] prompts frames notes marks lost no_prompts none parts =
    subst (λ (l : List Out × List (List ℕ) × List Out). Split [] l.0 l.1 notes marks l.2) (λ i. (sym no_prompts i, sym parts.0 i, sym parts.3 i)) (record {
      at_once = [];
      lost_at_once = [];
      late = [];
      lost_late = [];
      sent = (refl, refl);
      missed = (refl, refl);
      parted = (refl, refl);
      parts = (refl, parts.1, parts.2, refl);
    })
none-split (g ∷ gone) prompts frames notes marks lost no_prompts none parts = absurd (let no : ⊥ = cc in no)

-- one that went at once, and the others
module _ (out : Out) (gone : List (Tag × LateSeen)) (prompts : List Out) where
  framed : (f : List ℕ) (frames : List (List ℕ)) (notes marks : List Noted) (lost : List Out) → out ≡ Frame f
      → Split gone prompts frames notes marks lost → Split gone (out ∷ prompts) (f ∷ frames) notes marks lost
  framed f frames notes marks lost is s = record {
    at_once = f ∷ s.at_once;
    lost_at_once = s.lost_at_once;
    late = s.late;
    lost_late = s.lost_late;
    sent = inl (s.at_once, refl, s.sent);
    missed = s.missed;
    parted = s.parted;
    parts = inl (f, s.at_once, refl, is, s.parts);
  }

  noted : (n : Noted) (frames : List (List ℕ)) (notes marks : List Noted) (lost : List Out) → out ≡ Note (record { 0 = n.0 }) n.1
      → Split gone prompts frames notes marks lost → Split gone (out ∷ prompts) frames (n ∷ notes) marks lost
  noted n frames notes marks lost is s = record {
    at_once = s.at_once;
    lost_at_once = s.lost_at_once;
    late = s.late;
    lost_late = s.lost_late;
    sent = s.sent;
    missed = s.missed;
    parted = s.parted;
    parts = inr (inl (n, notes, refl, is, s.parts));
  }

  marked : (n : Noted) (frames : List (List ℕ)) (notes marks : List Noted) (lost : List Out) → out ≡ Deferred n.0 (record { 0 = n.1 })
      → Split gone prompts frames notes marks lost → Split gone (out ∷ prompts) frames notes (n ∷ marks) lost
  marked n frames notes marks lost is s = record {
    at_once = s.at_once;
    lost_at_once = s.lost_at_once;
    late = s.late;
    lost_late = s.lost_late;
    sent = s.sent;
    missed = s.missed;
    parted = s.parted;
    parts = inr (inr (inl (n, marks, refl, is, s.parts)));
  }

  missing : (frames : List (List ℕ)) (notes marks : List Noted) (lost : List Out)
      → Split gone prompts frames notes marks lost → Split gone (out ∷ prompts) frames notes marks (out ∷ lost)
  missing frames notes marks lost s = record {
    at_once = s.at_once;
    lost_at_once = out ∷ s.lost_at_once;
    late = s.late;
    lost_late = s.lost_late;
    sent = s.sent;
    missed = inl (s.lost_at_once, refl, s.missed);
    parted = s.parted;
    parts = inr (inr (inr (s.lost_at_once, refl, s.parts)));
  }

-- a late frame, and the others
module _ (g : Tag × LateSeen) (gone : List (Tag × LateSeen)) (prompts : List Out) where
  late_sent : (f : List ℕ) (frames : List (List ℕ)) (notes marks : List Noted) (lost : List Out) → g.1.frame ≡ f
      → Split gone prompts frames notes marks lost → Split (g ∷ gone) prompts (f ∷ frames) notes marks lost
  late_sent f frames notes marks lost is s = record {
    at_once = s.at_once;
    lost_at_once = s.lost_at_once;
    late = g.1 ∷ s.late;
    lost_late = s.lost_late;
    sent = inr (bytes_of s.late, ap (λ (x : List ℕ). x ∷ bytes_of s.late) is, s.sent);
    missed = s.missed;
    parted = inl (s.late, refl, s.parted);
    parts = s.parts;
  }

  late_missing : (out : Out) (frames : List (List ℕ)) (notes marks : List Noted) (lost : List Out) → gone_out g ≡ out
      → Split gone prompts frames notes marks lost → Split (g ∷ gone) prompts frames notes marks (out ∷ lost)
  late_missing out frames notes marks lost is s = record {
    at_once = s.at_once;
    lost_at_once = s.lost_at_once;
    late = s.late;
    lost_late = g.1 ∷ s.lost_late;
    sent = s.sent;
    missed = inr (map late_out s.lost_late, ap (λ (x : Out). x ∷ map late_out s.lost_late) is, s.missed);
    parted = inr (s.lost_late, refl, s.parted);
    parts = s.parts;
  }

-- the first of what was handed on is that of what went at once, or of the late frames
abbrev Continues : List Out → Type 0
Continues outs = (gone : List (Tag × LateSeen)) (prompts : List Out) (frames : List (List ℕ)) (notes marks : List Noted) (lost : List Out)
    → LeavesOut (map gone_out gone) outs prompts → Parts outs frames notes marks lost → Split gone prompts frames notes marks lost

split-prompt : (out : Out) (outs : List Out) → Continues outs → (gone : List (Tag × LateSeen)) (rest : List Out) (frames : List (List ℕ))
    (notes marks : List Noted) (lost : List Out) → LeavesOut (map gone_out gone) outs rest → Parts (out ∷ outs) frames notes marks lost
    → Split gone (out ∷ rest) frames notes marks lost
split-prompt out outs others gone rest frames notes marks lost mixed (inl p) =
    subst (λ (l : List (List ℕ)). Split gone (out ∷ rest) l notes marks lost) (sym p.2)
    (framed out gone rest p.0 p.1 notes marks lost p.3 (others gone rest p.1 notes marks lost mixed p.4))
split-prompt out outs others gone rest frames notes marks lost mixed (inr (inl p)) =
    subst (λ (l : List Noted). Split gone (out ∷ rest) frames l marks lost) (sym p.2)
    (noted out gone rest p.0 frames p.1 marks lost p.3 (others gone rest frames p.1 marks lost mixed p.4))
split-prompt out outs others gone rest frames notes marks lost mixed (inr (inr (inl p))) =
    subst (λ (l : List Noted). Split gone (out ∷ rest) frames notes l lost) (sym p.2)
    (marked out gone rest p.0 frames notes p.1 lost p.3 (others gone rest frames notes p.1 lost mixed p.4))
split-prompt out outs others gone rest frames notes marks lost mixed (inr (inr (inr p))) =
    subst (λ (l : List Out). Split gone (out ∷ rest) frames notes marks l) (sym p.1)
    (missing out gone rest frames notes marks p.0 (others gone rest frames notes marks p.0 mixed p.2))

split-late : (out : Out) (outs : List Out) → Continues outs → (g : Tag × LateSeen) (gone : List (Tag × LateSeen)) (prompts : List Out)
    (frames : List (List ℕ)) (notes marks : List Noted) (lost : List Out) → gone_out g ≡ out → LeavesOut (map gone_out gone) outs prompts
    → Parts (out ∷ outs) frames notes marks lost → Split (g ∷ gone) prompts frames notes marks lost
split-late out outs others g gone prompts frames notes marks lost is mixed (inl p) =
    let same : g.1.frame ≡ p.0 = (let e = p.3 in cc) in
    subst (λ (l : List (List ℕ)). Split (g ∷ gone) prompts l notes marks lost) (sym p.2)
    (late_sent g gone prompts p.0 p.1 notes marks lost same (others gone prompts p.1 notes marks lost mixed p.4))
split-late out outs others g gone prompts frames notes marks lost is mixed (inr (inl p)) = absurd (let e = p.3 in let no : ⊥ = cc in no)
split-late out outs others g gone prompts frames notes marks lost is mixed (inr (inr (inl p))) = absurd (let e = p.3 in let no : ⊥ = cc in no)
split-late out outs others g gone prompts frames notes marks lost is mixed (inr (inr (inr p))) =
    subst (λ (l : List Out). Split (g ∷ gone) prompts frames notes marks l) (sym p.1)
    (late_missing g gone prompts out frames notes marks p.0 is (others gone prompts frames notes marks p.0 mixed p.2))

-- all of it
pub split : (outs : List Out) (gone : List (Tag × LateSeen)) (prompts : List Out) (frames : List (List ℕ)) (notes marks : List Noted) (lost : List Out)
    → LeavesOut (map gone_out gone) outs prompts → Parts outs frames notes marks lost → Split gone prompts frames notes marks lost
split [] gone prompts frames notes marks lost mixed parts = none-split gone prompts frames notes marks lost mixed.0 mixed.1 parts
split (out ∷ outs) gone prompts frames notes marks lost (inl m) parts =
    subst (λ (l : List Out). Split gone l frames notes marks lost) (sym m.1)
    (split-prompt out outs (split outs) gone m.0 frames notes marks lost m.2 parts)
split (out ∷ outs) [] prompts frames notes marks lost (inr m) parts = absurd (let e = m.1 in let no : ⊥ = cc in no)
split (out ∷ outs) (g ∷ gone) prompts frames notes marks lost (inr m) parts =
    let head : gone_out g ≡ out = (let e = m.1 in cc) in
    let tail : m.0 ≡ map gone_out gone = (let e = m.1 in cc) in
    split-late out outs (split outs) g gone prompts frames notes marks lost head (subst (λ (l : List Out). LeavesOut l outs prompts) tail m.2) parts
