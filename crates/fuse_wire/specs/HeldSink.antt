-- What a stream sink holds, and what one send makes of it.
use Rattle.std.specs.Prelude.{◌≡◌, ◌⊎◌, ℕ, Bool, true, false, List}
use Rattle.fuse_wire.specs.Faults.{counted}
use Rattle.fuse_wire.specs.ByteSink.{ByteSinkState}
use Rattle.fuse_wire.specs.Sink.{SinkState}
use Rattle.fuse_wire.specs.StreamSink.{WritesAll, stream_sink_told}
use Rattle.fuse_wire.specs.declared.sink.Sending.{Sending}
use Rattle.fuse_wire.specs.declared.sink.Sending.TheVariants.{Sent, Absent, Failed}
use Rattle.fuse_wire.specs.declared.stream_sink.StreamSink.{StreamSink}

-- the stream that it writes to
abbrev pub sink_stream : {O : Type 0} {g : _} → StreamSink O g → O
sink_stream sink = sink.inner

-- the stream as it was when the sink was made over it
abbrev pub made_over : {O : Type 0} {g : _} → StreamSink O g → O
made_over sink = sink.origin.value

-- a write has failed
abbrev pub is_broken : {O : Type 0} {g : _} → StreamSink O g → Bool
is_broken sink = sink.broken

-- how many sends it has refused since then
abbrev pub refusals : {O : Type 0} {g : _} → StreamSink O g → ℕ
refusals sink = sink.refused

-- what it tells, where its stream tells this
abbrev pub sink_told : {O : Type 0} {g : _} → (told : O → ByteSinkState) → StreamSink O g → SinkState
sink_told told sink = stream_sink_told (told (made_over sink)) (told (sink_stream sink)) (is_broken sink) (refusals sink)

-- no write had failed, and what the sink was made over and its count of refusals are as before
abbrev pub Attempts : {O : Type 0} {g : _} → StreamSink O g → StreamSink O g → Type 0
Attempts old new = (is_broken old ≡ false) × (made_over new ≡ made_over old) × (refusals new ≡ refusals old)

-- a write had failed before: nothing is written, and the refusal is counted
abbrev pub RefusesUnwritten : {O : Type 0} {g : _} → StreamSink O g → StreamSink O g → Type 0
RefusesUnwritten old new =
    (is_broken old ≡ true) × (is_broken new ≡ true) × (sink_stream new ≡ sink_stream old) × (made_over new ≡ made_over old)
    × (refusals new ≡ counted (refusals old) 1)

-- What one send does, where the stream below told this before and tells this after. The frame is written whole, or a write
-- fails and the sink is broken from then on, or it was broken. A stream never answers Absent.
abbrev pub SendsStream : {O : Type 0} {g : _} →
    Sending → List ℕ → ByteSinkState → ByteSinkState → StreamSink O g → StreamSink O g → Type 0
SendsStream Sent frame before after old new = Attempts old new × (is_broken new ≡ false) × WritesAll true frame before after
SendsStream Absent frame before after old new = ⊥
SendsStream Failed frame before after old new =
    (Attempts old new × (is_broken new ≡ true) × WritesAll false frame before after) ⊎ RefusesUnwritten old new
