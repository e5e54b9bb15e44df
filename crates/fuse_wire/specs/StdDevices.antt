-- Readers and writers of std as streams: what one call does to the bytes below, where std knows them, and to the count of errors.
use Rattle.std.specs.Prelude.{◌≡◌, ◌≤◌, ℕ, [], List, Option, None, length, take}
use Rattle.std.specs.Io.KnownBytes.{Appends, Consumes, IsAtEnd, Keeps}
use Rattle.fuse_wire.specs.Faults.{counted}
use Rattle.fuse_wire.specs.ByteSource.{ByteSourceState}
use Rattle.fuse_wire.specs.ByteSink.{ByteSinkState}
use Rattle.fuse_wire.specs.declared.byte_source.ByteRead.{ByteRead}
use Rattle.fuse_wire.specs.declared.byte_source.ByteRead.TheVariants.{Got, End, Failed}
use Rattle.fuse_wire.specs.declared.byte_sink.ByteWrite.{ByteWrite}
use Rattle.fuse_wire.specs.declared.byte_sink.ByteWrite.TheVariants.{Wrote, Failed as Unwritten}
use Rattle.fuse_wire.specs.declared.std_source.StdSource.{StdSource}
use Rattle.fuse_wire.specs.declared.std_sink.StdSink.{StdSink}

-- the reader below a source
abbrev pub reader_below : {R : Type 0} → StdSource R → R
reader_below source = source.reader

-- how many of its reads failed
abbrev pub failed_reads : {R : Type 0} → StdSource R → ℕ
failed_reads source = source.faults

-- what it tells: none of its bytes, and these as its faults
abbrev pub reader_told : {R : Type 0} → StdSource R → ByteSourceState
reader_told source = record { bytes = None; faults = failed_reads source }

-- the writer below a sink
abbrev pub writer_below : {W : Type 0} → StdSink W → W
writer_below sink = sink.writer

-- how many of its writes failed
abbrev pub failed_writes : {W : Type 0} → StdSink W → ℕ
failed_writes sink = sink.faults

-- what it tells: none of its bytes, and these as its faults
abbrev pub writer_told : {W : Type 0} → StdSink W → ByteSinkState
writer_told sink = record { bytes = None; faults = failed_writes sink }

-- what one read does to the bytes that the reader has left: they come to the front of the piece, and none is passed over
abbrev pub ReadsBelow : ByteRead → List ℕ → Option (List ℕ) → Option (List ℕ) → Type 0
ReadsBelow (Got n) piece before after = Consumes before after (take n piece)
ReadsBelow End piece before after = Consumes before after [] × IsAtEnd after
ReadsBelow Failed piece before after = Keeps before after

-- just a failure is counted
abbrev pub CountsRead : ByteRead → ℕ → ℕ → Type 0
CountsRead (Got n) before after = after ≡ before
CountsRead End before after = after ≡ before
CountsRead Failed before after = after ≡ counted before 1

-- what one write does to the bytes that the writer holds: the front of the piece is put after them; where the writer took it
-- and then could not flush, the answer is a failure
abbrev pub WritesBelow : ByteWrite → List ℕ → Option (List ℕ) → Option (List ℕ) → Type 0
WritesBelow (Wrote n) piece before after = Appends before after (take n piece)
WritesBelow Unwritten piece before after = (n : ℕ) × (n ≤ length piece) × Appends before after (take n piece)

-- just a failure is counted
abbrev pub CountsWrite : ByteWrite → ℕ → ℕ → Type 0
CountsWrite (Wrote n) before after = after ≡ before
CountsWrite Unwritten before after = after ≡ counted before 1
