-- A source that cuts a stream of bytes into messages.
use Rattle.std.specs.Prelude.{◌≤◌, ◌<◌, ℕ, List, Option, None, Some, option_map, take}
use Rattle.fuse_wire.specs.Cut.{cut}
use Rattle.fuse_wire.specs.Source.{SourceState}
use Rattle.fuse_wire.specs.ByteSource.{ByteSourceState, TakesBytes, NoByteLeft, StreamFailed}
use Rattle.fuse_wire.specs.declared.stream_source.StreamSource.{StreamSource}

-- the stream that the source cuts
abbrev pub source_stream : {I : Type 0} → StreamSource I → I
source_stream source = source.inner

-- what the source tells of a stream that stands so: its turns are the messages of the bytes left
abbrev pub stream_source_told : ByteSourceState → SourceState
stream_source_told stream = record { turns = option_map cut stream.bytes; faults = stream.faults }

-- The piece was filled from the front with so many bytes of the stream: with all that it holds, or with all that were left.
pub record Filled (count size : ℕ) (before after : ByteSourceState) (piece : List ℕ) : Type 0 where
  pub fits : count ≤ size
  pub taken : TakesBytes (take count piece) before after
  pub whole : count < size → NoByteLeft after

-- what filling a piece of this size did: so many bytes came, or a read failed
abbrev pub FillsPiece : Option ℕ → ℕ → ByteSourceState → ByteSourceState → List ℕ → Type 0
FillsPiece (Some count) size before after piece = Filled count size before after piece
FillsPiece None size before after piece = StreamFailed before after
