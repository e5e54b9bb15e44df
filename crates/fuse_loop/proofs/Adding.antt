-- A run whose counts are added to those of what came before it.
use Rattle.std.proofs.Common.{◌≡◌, ◌∙◌, ◌+◌, ℕ, List, ap, arith, length, min, refl}
use Rattle.fuse_wire.specs.Faults.{counted, last_count}
use Rattle.fuse_wire.specs.Source.{SourceState}
use Rattle.fuse_wire.specs.Sink.{SinkState, Note}
use Rattle.fuse_reply.specs.declared.out.Out.{Out}
use Rattle.fuse_loop.specs.EventLoop.{Run}
use Rattle.fuse_core.specs.OnePerMessage.{Accounting}
use Rattle.fuse_loop.specs.Progress.{Moves, added, but_unrecorded, nothing_yet, progress, tally}
use Rattle.fuse_loop.specs.declared.end.End.{End}
use Rattle.fuse_loop.specs.declared.transcript.Transcript.{Transcript}

tally-added : (r f n l r' f' n' l' : ℕ) → added (tally r f n l) (tally (0 + r') (0 + f') (0 + n') (0 + l')) ≡ tally (r + r') (f + f') (n + n') (l + l')
tally-added r f n l r' f' n' l' =
    let a : counted (min r last_count) (min (0 + r') last_count) ≡ min (r + r') last_count = omega arith in
    let b : counted (min f last_count) (min (0 + f') last_count) ≡ min (f + f') last_count = omega arith in
    let c : counted (min n last_count) (min (0 + n') last_count) ≡ min (n + n') last_count = omega arith in
    let d : counted (min l last_count) (min (0 + l') last_count) ≡ min (l + l') last_count = omega arith in
    cc

-- what a stretch moves does not depend on what was counted before it
pub Moves-added : {received : ℕ} {frames : List (List ℕ)} {notes : List Note} {lost : List Out} (source source' : SourceState) (sink sink' : SinkState)
    (before counts : Transcript) (unasked unasked' : List (List ℕ))
    → Moves received frames notes lost (progress source sink nothing_yet unasked) (progress source' sink' counts unasked')
    → Moves received frames notes lost (progress source sink before unasked) (progress source' sink' (added before counts) unasked')
Moves-added {received} {frames} {notes} {lost} source source' sink sink' before counts unasked unasked' moved = record {
  appended = moved.appended;
  refused = moved.refused;
  written = moved.written;
  replied = moved.replied;
  missed = moved.missed;
  set_aside = moved.set_aside;
  passed_on = moved.passed_on;
  tail = moved.tail;
  cause = moved.cause;
  counts = λ r f n l is.
      ap (λ (t : Transcript). but_unrecorded (added t counts)) is
      ∙ (ap (λ (t : Transcript). but_unrecorded (added (tally r f n l) t)) (moved.counts 0 0 0 0 refl)
      ∙ ap but_unrecorded (tally-added r f n l received (length frames) (length notes) (length lost)));
}

pub Run-added : {accounted : Accounting} {end : End} (source source' : SourceState) (sink sink' : SinkState)
    (before counts : Transcript) (unasked unasked' : List (List ℕ))
    → Run accounted end (progress source sink nothing_yet unasked) (progress source' sink' counts unasked')
    → Run accounted end (progress source sink before unasked) (progress source' sink' (added before counts) unasked')
Run-added source source' sink sink' before counts unasked unasked' run = record {
  turns = run.turns;
  answered = run.answered;
  refused = run.refused;
  sent = run.sent;
  notes = run.notes;
  lost = run.lost;
  heard = run.heard;
  order = run.order;
  moved = Moves-added source source' sink sink' before counts unasked unasked' run.moved;
  begins = run.begins;
  taken = run.taken;
  ended = run.ended;
}
