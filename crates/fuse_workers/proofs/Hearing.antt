-- Messages that are taken for workers, one after another.
use Rattle.std.proofs.Common.{◌≡◌, ◌∙◌, ◌+◌, ◌++◌, ℕ, List, [], ◌∷◌, Err, ap, arith, length, length-append, map, refl, subst, sym, take}
use Rattle.std.proofs.lemmas.List.{map-append}
use Rattle.fuse_wire.specs.Faults.{counted}
use Rattle.fuse_wire.specs.Source.{message, NothingLeft, SourceFailed}
use Rattle.fuse_wire.proofs.Devices.{Takes-none, Takes-then}
use Rattle.fuse_wire.specs.declared.newtypes.RequestId.{RequestId}
use Rattle.fuse_header.specs.Header.{header}
use Rattle.fuse_header.specs.declared.error.RequestError.{RequestError}
use Rattle.fuse_workers.specs.Hearing.{HearsLast, HearsOn, StopsWith}
use Rattle.fuse_loop.specs.Incoming.{id_of, incoming}
use Rattle.fuse_loop.specs.Incoming.Incoming.{Destroy as IsDestroy, Request}
use Rattle.fuse_core.specs.OnePerMessage.{number_of}
use Rattle.fuse_loop.specs.Progress.{IntakeState, TakesIn}
use Rattle.fuse_workers.specs.declared.stopped.Stopped.{Stopped}
use Rattle.fuse_workers.specs.declared.stopped.Stopped.TheVariants.{Gone, Destroy, Broken, Failed}
use Rattle.fuse_loop.specs.declared.taken.Taken.TheVariants.{Message, Gone as NoneLeft, Failed as NoneCame}
use Rattle.fuse_loop.proofs.ItemLists.{All-append}
use Rattle.fuse_loop.proofs.Taking.{Begins-none, Begins-from_takes, Begins-after, SourceFailed-after}

-- nothing was taken yet
pub HearsOn-none : (a : IntakeState) → HearsOn [] a a
HearsOn-none a = record {
  turns = [];
  heard = refl;
  go_on = tt;
  taken = Takes-none a.source;
  received = λ n is. is ∙ ap number_of (omega arith);
}

-- one count more
received-one : (n : ℕ) (a b : IntakeState) → b.received ≡ counted a.received 1 → a.received ≡ number_of n → b.received ≡ number_of (n + 1)
received-one n a b one is = omega (arith, one, is)

-- one request was taken
pub HearsOn-one : (count : ℕ) (a b : IntakeState) → TakesIn (Message count) a b → incoming (take count b.buffer) ≡ Request
    → (m : List ℕ) → m ≡ take count b.buffer → HearsOn (m ∷ []) a b
HearsOn-one count a b received goes m is = record {
  turns = received.0.turn ∷ [];
  heard = ap (λ (x : List ℕ). x ∷ []) (sym received.0.bytes ∙ sym is);
  go_on = (subst (λ (x : List ℕ). incoming x ≡ Request) (sym is) goes, tt);
  taken = received.0.taken;
  received = λ n from. received-one n a b received.1 from;
}

-- some requests, and then others
pub HearsOn-then : (ms more : List (List ℕ)) (a b c : IntakeState) → HearsOn ms a b → HearsOn more b c → HearsOn (ms ++ more) a c
HearsOn-then ms more a b c first second = record {
  turns = first.turns ++ second.turns;
  heard = map-append message first.turns second.turns
      ∙ (ap (λ (l : List (List ℕ)). l ++ map message second.turns) first.heard ∙ ap (λ (l : List (List ℕ)). ms ++ l) second.heard);
  go_on = All-append (λ (m : List ℕ). incoming m ≡ Request) ms more first.go_on second.go_on;
  taken = Takes-then first.turns second.turns a.source b.source c.source first.taken second.taken;
  received = λ n is. second.received (n + length first.turns) (first.received n is) ∙ ap number_of (omega (arith, length-append first.turns second.turns));
}

-- no message was left
pub HearsLast-gone : (number : ℕ) (a b : IntakeState) → TakesIn NoneLeft a b → HearsLast Gone number [] a b
HearsLast-gone number a b gone = record {
  turns = [];
  last = [];
  heard = refl;
  go_on = tt;
  begins = Begins-none a.source;
  taken = λ _. gone.0;
  received = λ n is. gone.2 ∙ (is ∙ ap number_of (omega arith));
  stops = (refl, gone.1);
}

-- the source failed
pub HearsLast-failed : (number : ℕ) (a b : IntakeState) → TakesIn NoneCame a b → HearsLast Failed number [] a b
HearsLast-failed number a b failed = record {
  turns = [];
  last = [];
  heard = refl;
  go_on = tt;
  begins = Begins-none a.source;
  taken = λ other. absurd (other refl);
  received = λ n is. failed.1 ∙ (is ∙ ap number_of (omega arith));
  stops = (refl, failed.0);
}

-- a last message was taken
last-taken : (stopped : Stopped) (number n : ℕ) (a b : IntakeState) (received : TakesIn (Message n) a b)
    → StopsWith stopped number (message received.0.turn ∷ []) (NothingLeft b.source) (SourceFailed a.source b.source)
    → HearsLast stopped number [] a b
last-taken stopped number n a b received stops = record {
  turns = received.0.turn ∷ [];
  last = message received.0.turn ∷ [];
  heard = refl;
  go_on = tt;
  begins = Begins-from_takes (received.0.turn ∷ []) a.source b.source received.0.taken;
  taken = λ _. received.0.taken;
  received = λ k is. received-one k a b received.1 is;
  stops = stops;
}

-- a message without a good header
pub HearsLast-broken : (number n : ℕ) (e : RequestError) (a b : IntakeState) → TakesIn (Message n) a b → header (take n b.buffer) ≡ Err e
    → HearsLast (Broken e) number [] a b
HearsLast-broken number n e a b received broken =
    last-taken (Broken e) number n a b received
    (message received.0.turn, refl, subst (λ (m : List ℕ). header m ≡ Err e) received.0.bytes broken)

-- DESTROY
pub HearsLast-destroy : (seq n : ℕ) (id : RequestId) (a b : IntakeState) → TakesIn (Message n) a b → incoming (take n b.buffer) ≡ IsDestroy
    → id.0 ≡ id_of (take n b.buffer) → HearsLast (Destroy seq id) seq [] a b
HearsLast-destroy seq n id a b received is id_is =
    last-taken (Destroy seq id) seq n a b received (
      message received.0.turn,
      refl,
      subst (λ (m : List ℕ). incoming m ≡ IsDestroy) received.0.bytes is,
      subst (λ (m : List ℕ). id.0 ≡ id_of m) received.0.bytes id_is,
      refl,
    )

-- why no more are taken, after other requests
StopsWith-after : (stopped : Stopped) (number : ℕ) (last : List (List ℕ)) (none_left failed failed' : Type 0) → (failed → failed')
    → StopsWith stopped number last none_left failed → StopsWith stopped number last none_left failed'
StopsWith-after Gone number last none_left failed failed' longer stops = stops
StopsWith-after (Destroy seq id) number last none_left failed failed' longer stops = stops
StopsWith-after (Broken e) number last none_left failed failed' longer stops = stops
StopsWith-after Failed number last none_left failed failed' longer stops = (stops.0, longer stops.1)

-- some requests, and then the last message, or none
pub HearsLast-then : (stopped : Stopped) (number : ℕ) (ms : List (List ℕ)) (a b c : IntakeState) → HearsOn ms a b → HearsLast stopped number [] b c
    → HearsLast stopped number ms a c
HearsLast-then stopped number ms a b c first stop = record {
  turns = first.turns ++ stop.turns;
  last = stop.last;
  heard = map-append message first.turns stop.turns
      ∙ (ap (λ (l : List (List ℕ)). l ++ map message stop.turns) first.heard ∙ ap (λ (l : List (List ℕ)). ms ++ l) stop.heard);
  go_on = first.go_on;
  begins = Begins-after first.turns stop.turns a.source b.source first.taken stop.begins;
  taken = λ other. Takes-then first.turns stop.turns a.source b.source c.source first.taken (stop.taken other);
  received = λ n is. stop.received (n + length first.turns) (first.received n is) ∙ ap number_of (omega (arith, length-append first.turns stop.turns));
  stops = StopsWith-after stopped number stop.last (NothingLeft c.source) (SourceFailed b.source c.source) (SourceFailed a.source c.source)
      (SourceFailed-after a.source b.source c.source first.taken.faults) stop.stops;
}

-- with the same last message
pub HearsLast-after : (stopped : Stopped) (number : ℕ) (ms : List (List ℕ)) (a b c : IntakeState) → HearsOn ms a b → (stop : HearsLast stopped number [] b c)
    → (whole : HearsLast stopped number ms a c) × (whole.last ≡ stop.last)
unfolding HearsLast-then
HearsLast-after stopped number ms a b c first stop = (HearsLast-then stopped number ms a b c first stop, refl)
