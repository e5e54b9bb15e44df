-- The bytes of the frames that a session wrote to a stream.
use Rattle.std.proofs.Common.{◌≡◌, ◌≤◌, ◌<◌, ◌+◌, ℕ, Bool, true, false, List, [], ◌∷◌, ◌++◌, Option, None, Some, option_map, IfSome, length}
use Rattle.std.proofs.Common.{drop, refl, sym, ap, ◌∙◌, subst, arith}
use Rattle.std.specs.List.{concat}
use Rattle.std.specs.Option.{MatchOption}
use Rattle.std.proofs.lemmas.List.{drop_all}
use Rattle.std.proofs.Math.Logic.{∥∥₁_elim}
use Rattle.std.proofs.Props.{props}
use Rattle.fuse_wire.specs.Faults.{Rose, counted, last_count}
use Rattle.fuse_wire.specs.Frames.{frames}
use Rattle.fuse_wire.specs.Sink.{SinkState, Tail, Note, Appends}
use Rattle.fuse_wire.specs.Sink.Tail.{Whole, Torn}
use Rattle.fuse_wire.specs.ByteSink.{ByteSinkState}
use Rattle.fuse_wire.specs.StreamSink.{IsTorn, Stands, frames_since, tail_of, tail_since, stream_sink_told}
use Rattle.fuse_wire.proofs.Frames.{IsTorn-nil, frames-concat_torn}
use Rattle.fuse_reply.specs.Deliver.{LeavesTail}
use Rattle.fuse_reply.specs.declared.out.Out.{Out}
use Rattle.fuse_reply.specs.declared.out.Out.TheVariants.{Frame, Note as Noting, Deferred}
use Rattle.fuse_reply.proofs.Tails.{LeavesTail-settled}
use Rattle.fuse_program.specs.Program.{WritesFrames, TornFromFirst}
use Rattle.fuse_program.proofs.Reading.{same_some}

-- the bytes of a frame with which a stream ends
abbrev pub torn_in : Option Tail → List ℕ
torn_in None = []
torn_in (Some Whole) = []
torn_in (Some (Torn torn)) = torn

-- what stands on the stream, where it tells: the frames written and a torn part, if a write failed
abbrev Parts : (written : List (List ℕ)) → (torn : List ℕ) → (broken : Bool) → (first now : Option (List ℕ)) → Type 0
Parts written torn broken first now =
    (now ≡ option_map (λ held. held ++ (concat written ++ torn)) first)
    × IfSome first (λ held. frames (concat written ++ torn) ≡ written)
    × ∥ IsTorn torn ∥₁
    × (broken ≡ false → torn ≡ [])

-- the frames that the sink tells are those that were appended
no_frames : (first : List ℕ) → frames (drop (length first) first) ≡ []
no_frames first = ap frames (drop_all (length first) first (omega arith))

-- how a stream ends that stands so
torn_in-tail_of : (broken : Bool) (torn : List ℕ) → (broken ≡ false → torn ≡ []) → torn_in (Some (tail_of broken torn)) ≡ torn
torn_in-tail_of true torn whole = refl
torn_in-tail_of false torn whole = sym (whole refl)

parts : (written : List (List ℕ)) (notes : List Note) (origin now : ByteSinkState) (sink : SinkState) (broken : Bool)
    → Appends written notes (stream_sink_told origin origin false 0) sink → Stands sink now broken
    → Parts written (torn_in sink.tail) broken origin.bytes now.bytes
parts written notes origin now sink broken appends s =
    by_first origin.bytes now.bytes (ap (λ (o : ByteSinkState). o.bytes) appends.origin) appends.framed s.told s.tail s.bytes where
      by_first : (first last : Option (List ℕ)) → sink.origin.bytes ≡ first
          → sink.frames ≡ option_map (λ held. held ++ written) (frames_since first first)
          → sink.frames ≡ option_map (λ held. s.sent) sink.origin.bytes
          → sink.tail ≡ option_map (λ held. tail_of broken s.torn) sink.origin.bytes
          → last ≡ option_map (λ held. held ++ (concat s.sent ++ s.torn)) sink.origin.bytes
          → Parts written (torn_in sink.tail) broken first last
      by_first None last e f told tail bytes =
          let torn : torn_in sink.tail ≡ [] = ap torn_in (tail ∙ ap (option_map (λ held. tail_of broken s.torn)) e) in
          (bytes ∙ ap (option_map (λ held. held ++ (concat s.sent ++ s.torn))) e, tt, ∣ subst IsTorn (sym torn) IsTorn-nil ∣₁, λ whole. torn)
      by_first (Some first) last e f told tail bytes =
          let same : s.sent ≡ written =
          same_some s.sent written
          (ap (option_map (λ (held : List ℕ). s.sent)) (sym e) ∙ (sym told ∙ (f ∙ ap (λ (x : List (List ℕ)). Some (x ++ written)) (no_frames first)))) in
          let torn : s.torn ≡ torn_in sink.tail =
          sym (ap torn_in (tail ∙ ap (option_map (λ held. tail_of broken s.torn)) e) ∙ torn_in-tail_of broken s.torn s.whole) in
          let put : last ≡ Some (first ++ (concat written ++ s.torn)) =
          bytes ∙ (ap (option_map (λ held. held ++ (concat s.sent ++ s.torn))) e
          ∙ ap (λ (x : List (List ℕ)). Some (first ++ (concat x ++ s.torn))) same) in
          let split : frames (concat written ++ s.torn) ≡ written =
          ap (λ (x : List (List ℕ)). frames (concat x ++ s.torn)) (sym same) ∙ (frames-concat_torn s.sent s.torn s.each s.part ∙ same) in
          subst (λ (x : List ℕ). Parts written x broken (Some first) last) torn (put, split, ∣ s.part ∣₁, s.whole)

-- the frames that were appended stand on the output, and at most a part of one more
pub WritesFrames-stands : (written : List (List ℕ)) (notes : List Note) (output output' : ByteSinkState) (sink : SinkState) (broken : Bool)
    → Appends written notes (stream_sink_told output output false 0) sink → ∥ Stands sink output' broken ∥₁
    → WritesFrames written (torn_in sink.tail) output output'
WritesFrames-stands written notes output output' sink broken appends stands = record {
  joined = record {
    bytes = ∥∥₁_elim stands (hlevel props) (λ s. (parts written notes output output' sink broken appends s).0);
    faults = ∥∥₁_elim stands (hlevel props)
        (λ s. subst (λ (o : ByteSinkState). o.faults ≤ output'.faults) appends.origin s.faults);
  };
  split = split output.bytes (λ s. (parts written notes output output' sink broken appends s).1);
  part = ∥∥₁_elim stands (hlevel props) (λ s. (parts written notes output output' sink broken appends s).2);
} where
  split : (first : Option (List ℕ))
      → (Stands sink output' broken → IfSome first (λ held. frames (concat written ++ torn_in sink.tail) ≡ written))
      → IfSome first (λ held. frames (concat written ++ torn_in sink.tail) ≡ written)
  split None h = tt
  split (Some first) h = ∥∥₁_elim stands (hlevel props) h

-- nothing is torn where no write failed
pub torn-none : (written : List (List ℕ)) (notes : List Note) (output output' : ByteSinkState) (sink : SinkState) (broken : Bool)
    → Appends written notes (stream_sink_told output output false 0) sink → ∥ Stands sink output' broken ∥₁ → broken ≡ false
    → torn_in sink.tail ≡ []
torn-none written notes output output' sink broken appends stands is =
    ∥∥₁_elim stands (hlevel props) (λ s. (parts written notes output output' sink broken appends s).3 is)

-- what is torn is of the first frame that was lost
first-torn : (lost : List Out) (broken : Bool) (tail : Option Tail) → (tail ≡ Some Whole → broken ≡ false)
    → ((torn : List ℕ) → tail ≡ Some (Torn torn) → broken ≡ true) → LeavesTail lost (Some Whole) tail → TornFromFirst lost broken (torn_in tail)
first-torn [] broken tail whole failed ends = (whole ends, ap torn_in ends)
first-torn (Frame f ∷ lost) broken None whole failed ends = absurd ends
first-torn (Frame f ∷ lost) broken (Some Whole) whole failed ends = absurd ends
first-torn (Frame f ∷ lost) broken (Some (Torn torn)) whole failed ends = (failed torn refl, ends)
first-torn (Noting id mark ∷ lost) broken tail whole failed ends = first-torn lost broken tail whole failed ends
first-torn (Deferred seq id ∷ lost) broken tail whole failed ends = first-torn lost broken tail whole failed ends

-- a stream ends with a whole frame where no write failed
whole-tail : (broken : Bool) (torn : List ℕ) → Some Whole ≡ Some (tail_of broken torn) → broken ≡ false
whole-tail true torn is = absurd (let no : ⊥ = cc in no)
whole-tail false torn is = refl

-- and with a part of one where a write did
torn-tail : (broken : Bool) (some torn : List ℕ) → Some (Torn some) ≡ Some (tail_of broken torn) → broken ≡ true
torn-tail true some torn is = refl
torn-tail false some torn is = absurd (let no : ⊥ = cc in no)

-- nothing is torn where the output tells nothing
pub TornFromFirst-tail : (lost : List Out) (first : Option (List ℕ)) (output' : ByteSinkState) (sink : SinkState) (broken : Bool)
    → sink.origin.bytes ≡ first → ∥ Stands sink output' broken ∥₁ → LeavesTail lost (tail_since false first first) sink.tail
    → MatchOption first (torn_in sink.tail ≡ []) (λ held. TornFromFirst lost broken (torn_in sink.tail))
TornFromFirst-tail lost None output' sink broken origin stands ends =
    ap torn_in (LeavesTail-settled lost None sink.tail (λ is. let no : ⊥ = cc in no) ends)
TornFromFirst-tail lost (Some first) output' sink broken origin stands ends =
    first-torn lost broken sink.tail
    (λ is. ∥∥₁_elim stands (hlevel props) (λ s. whole-tail broken s.torn (sym is ∙ told s)))
    (λ torn is. ∥∥₁_elim stands (hlevel props) (λ s. torn-tail broken torn s.torn (sym is ∙ told s)))
    ends
  where
    told : (s : Stands sink output' broken) → sink.tail ≡ Some (tail_of broken s.torn)
    told s = s.tail ∙ ap (option_map (λ held. tail_of broken s.torn)) origin

-- a write that failed was counted by the output
pub Rose-broken : (output output' : ByteSinkState) (sink : SinkState) (broken : Bool)
    → sink.origin ≡ output → ∥ Stands sink output' broken ∥₁ → broken ≡ true → Rose output.faults output'.faults
Rose-broken output output' sink broken origin stands is =
    ∥∥₁_elim stands (hlevel props) (λ s. subst (λ (o : ByteSinkState). Rose o.faults output'.faults) origin (s.cause is))

-- and so was a frame that was lost with no write failed
pub Rose-lost : (lost : ℕ) (output output' : ByteSinkState) (sink : SinkState) (broken : Bool)
    → (sink.faults < last_count → lost + counted output.faults 0 ≤ sink.faults) → ∥ Stands sink output' broken ∥₁
    → broken ≡ false → 0 < lost
    → Rose output.faults output'.faults
Rose-lost lost output output' sink broken cause stands is some = λ below. ∥∥₁_elim stands (hlevel props) (rises below) where
  rises : output'.faults < last_count → Stands sink output' broken → output.faults < output'.faults
  rises below s =
      let counted_by : sink.faults ≤ output'.faults = s.counts is in
      let low : sink.faults < last_count = omega arith in
      let more : lost + counted output.faults 0 ≤ sink.faults = cause low in
      omega arith
