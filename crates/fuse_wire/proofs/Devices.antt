-- What devices take and put, one step after another.
use Rattle.std.proofs.Common.{ℕ, List, [], ◌++◌, option_map, refl, ap, ◌∙◌, arith}
use Rattle.fuse_wire.specs.Source.{SourceState, Takes}
use Rattle.fuse_wire.specs.Sink.{SinkState, Appends, Note}
use Rattle.fuse_wire.specs.ByteSource.{ByteSourceState, TakesBytes}
use Rattle.fuse_wire.specs.ByteSink.{ByteSinkState, PutsBytes}
use Rattle.fuse_wire.proofs.Options.{option_map-front_none, option_map-front_then, option_map-back_none, option_map-back_then}

-- no turn is taken where nothing happens
pub Takes-none : (s : SourceState) → Takes [] s s
Takes-none s = record { turns = option_map-front_none s.turns; faults = omega arith }

-- turns taken, and then more
pub Takes-then : (xs ys : List (List ℕ)) (a b c : SourceState) → Takes xs a b → Takes ys b c → Takes (xs ++ ys) a c
Takes-then xs ys a b c first second = record {
  turns = first.turns ∙ ap (option_map (λ left. xs ++ left)) second.turns ∙ option_map-front_then xs ys c.turns;
  faults = omega arith;
}

-- no byte is taken where nothing happens
pub TakesBytes-none : (s : ByteSourceState) → TakesBytes [] s s
TakesBytes-none s = record { bytes = option_map-front_none s.bytes; faults = omega arith }

-- bytes taken, and then more
pub TakesBytes-then : (xs ys : List ℕ) (a b c : ByteSourceState) → TakesBytes xs a b → TakesBytes ys b c → TakesBytes (xs ++ ys) a c
TakesBytes-then xs ys a b c first second = record {
  bytes = first.bytes ∙ ap (option_map (λ left. xs ++ left)) second.bytes ∙ option_map-front_then xs ys c.bytes;
  faults = omega arith;
}

-- nothing is put where nothing happens
pub Appends-none : (s : SinkState) → Appends [] [] s s
Appends-none s = record {
  framed = option_map-back_none s.frames;
  noted = option_map-back_none s.notes;
  faults = omega arith;
  origin = refl;
}

-- frames and notes put, and then more
pub Appends-then : (fs gs : List (List ℕ)) (ns ms : List Note) (a b c : SinkState) →
    Appends fs ns a b → Appends gs ms b c → Appends (fs ++ gs) (ns ++ ms) a c
Appends-then fs gs ns ms a b c first second = record {
  framed = second.framed ∙ ap (option_map (λ held. held ++ gs)) first.framed ∙ option_map-back_then fs gs a.frames;
  noted = second.noted ∙ ap (option_map (λ held. held ++ ms)) first.noted ∙ option_map-back_then ns ms a.notes;
  faults = omega arith;
  origin = second.origin ∙ first.origin;
}

-- no byte is put where nothing happens
pub PutsBytes-none : (s : ByteSinkState) → PutsBytes [] s s
PutsBytes-none s = record { bytes = option_map-back_none s.bytes; faults = omega arith }

-- bytes put, and then more
pub PutsBytes-then : (xs ys : List ℕ) (a b c : ByteSinkState) → PutsBytes xs a b → PutsBytes ys b c → PutsBytes (xs ++ ys) a c
PutsBytes-then xs ys a b c first second = record {
  bytes = second.bytes ∙ ap (option_map (λ held. held ++ ys)) first.bytes ∙ option_map-back_then xs ys a.bytes;
  faults = omega arith;
}
