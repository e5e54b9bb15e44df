-- The bytes of the messages that were taken from a stream.
use Rattle.std.proofs.Common.{◌≡◌, ℕ, List, [], ◌∷◌, ◌++◌, Option, None, Some, option_map, IfSome, map, refl, sym, ap, ◌∙◌, subst}
use Rattle.std.specs.List.{concat, AllByRecursion}
use Rattle.std.proofs.lemmas.List.{take_all}
use Rattle.std.proofs.lemmas.List.Folds.{concat-append}
use Rattle.fuse_wire.specs.Cut.{cut, IsMessage}
use Rattle.fuse_wire.specs.Source.{Takes, message, NothingLeft}
use Rattle.fuse_wire.specs.ByteSource.{ByteSourceState, TakesBytes, NoByteLeft}
use Rattle.fuse_wire.specs.StreamSource.{stream_source_told}
use Rattle.fuse_wire.proofs.Cut.{concat-cut, IsMessage-cut}
use Rattle.fuse_loop.specs.Progress.{Begins}
use Rattle.fuse_program.specs.Program.{Fronts}

pub same_some : {A : Type 0} (x y : A) → Some x ≡ Some y → x ≡ y
same_some x y h = cc

-- a message that the buffer holds is taken whole
message-whole : (turn : List ℕ) → IsMessage turn → message turn ≡ turn
message-whole turn is = take_all _ turn is.fits

messages-whole : (turns rest : List (List ℕ)) → AllByRecursion IsMessage (turns ++ rest) → map message turns ≡ turns
messages-whole [] rest each = refl
messages-whole (turn ∷ turns) rest each =
    let first : message turn ≡ turn = message-whole turn each.0 in
    let others : map message turns ≡ turns = messages-whole turns rest each.1 in
    ap (λ (m : List ℕ). m ∷ map message turns) first ∙ ap (λ (ms : List (List ℕ)). turn ∷ ms) others

-- the messages in front of a stream are its turns there
pub front-whole : (bytes : List ℕ) (turns rest : List (List ℕ)) → cut bytes ≡ turns ++ rest → map message turns ≡ turns
front-whole bytes turns rest e = messages-whole turns rest (subst (AllByRecursion IsMessage) e (IsMessage-cut bytes))

-- the turns that there were begin with these
pub Fronts-begins : (turns : List (List ℕ)) (a : ByteSourceState) → Begins turns (stream_source_told a) → Fronts (map message turns) a
Fronts-begins turns a begins = at_front a.bytes begins where
  at_front : (bytes : Option (List ℕ)) → IfSome (option_map cut bytes) (λ all. (rest : List (List ℕ)) × (all ≡ turns ++ rest))
      → IfSome bytes (λ bytes. (later : List (List ℕ)) × (cut bytes ≡ map message turns ++ later))
  at_front None h = tt
  at_front (Some bytes) h = (h.0, h.1 ∙ ap (λ (ms : List (List ℕ)). ms ++ h.0) (sym (front-whole bytes turns h.0 h.1)))

-- the turns that there were begin with those that were taken
pub Fronts-takes : (turns : List (List ℕ)) (a b : ByteSourceState) → Takes turns (stream_source_told a) (stream_source_told b) → Fronts (map message turns) a
Fronts-takes turns a b takes = at_front a.bytes b.bytes takes.turns where
  at_front : (before after : Option (List ℕ)) → option_map cut before ≡ option_map (λ left. turns ++ left) (option_map cut after)
      → IfSome before (λ bytes. (later : List (List ℕ)) × (cut bytes ≡ map message turns ++ later))
  at_front None after e = tt
  at_front (Some all) None e = absurd (cc)
  at_front (Some all) (Some left) e =
      let split : cut all ≡ turns ++ cut left = same_some (cut all) (turns ++ cut left) e in
      (cut left, split ∙ ap (λ (ms : List (List ℕ)). ms ++ cut left) (sym (front-whole all turns (cut left) split)))

-- the bytes of the turns that were taken
pub TakesBytes-takes : (turns : List (List ℕ)) (a b : ByteSourceState) → Takes turns (stream_source_told a) (stream_source_told b)
    → TakesBytes (concat (map message turns)) a b
TakesBytes-takes turns a b takes = record { bytes = joined a.bytes b.bytes takes.turns; faults = takes.faults } where
  joined : (before after : Option (List ℕ)) → option_map cut before ≡ option_map (λ left. turns ++ left) (option_map cut after)
      → before ≡ option_map (λ left. concat (map message turns) ++ left) after
  joined None None e = refl
  joined None (Some left) e = absurd (cc)
  joined (Some all) None e = absurd (cc)
  joined (Some all) (Some left) e =
      let split : cut all ≡ turns ++ cut left = same_some (cut all) (turns ++ cut left) e in
      let whole : map message turns ≡ turns = front-whole all turns (cut left) split in
      ap Some (sym (concat-cut all) ∙ (ap concat split ∙ (concat-append turns (cut left)
      ∙ (ap (λ (rest : List ℕ). concat turns ++ rest) (concat-cut left) ∙ ap (λ (ms : List (List ℕ)). concat ms ++ left) (sym whole)))))

-- where no message is left no byte is
pub NoByteLeft-nothing : (a : ByteSourceState) → NothingLeft (stream_source_told a) → NoByteLeft a
NoByteLeft-nothing a nothing = none a.bytes nothing where
  none : (bytes : Option (List ℕ)) → IfSome (option_map cut bytes) (λ left. left ≡ []) → IfSome bytes (λ left. left ≡ [])
  none None h = tt
  none (Some bytes) h = sym (concat-cut bytes) ∙ ap concat h
