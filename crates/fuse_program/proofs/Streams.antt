-- What is told of streams, under other names for the same.
use Rattle.std.proofs.Common.{◌≡◌, ℕ, Bool, subst}
use Rattle.fuse_wire.specs.Source.{SourceState}
use Rattle.fuse_wire.specs.Sink.{SinkState}
use Rattle.fuse_wire.specs.ByteSource.{ByteSourceState}
use Rattle.fuse_wire.specs.ByteSink.{ByteSinkState}
use Rattle.fuse_wire.specs.StreamSource.{stream_source_told}
use Rattle.fuse_wire.specs.StreamSink.{stream_sink_told}

-- a source over equal streams tells the same
pub source-same : {I : Type 0} (told : I → ByteSourceState) (a b : I) → a ≡ b → stream_source_told (told a) ≡ stream_source_told (told b)
source-same told a b e = cc

-- a sink over equal streams tells the same
pub sink-same : {O : Type 0} (told : O → ByteSinkState) (a b c d : O) (x y : Bool) (r s : ℕ) → a ≡ c → b ≡ d → x ≡ y → r ≡ s
    → stream_sink_told (told a) (told b) x r ≡ stream_sink_told (told c) (told d) y s
sink-same told a b c d x y r s e f g h = cc

-- a fact of what is told, under other names
pub carried : (P : SourceState → SourceState → SinkState → Type 0) (a a' b b' : SourceState) (k k' : SinkState)
    → a ≡ a' → b ≡ b' → k ≡ k' → P a b k → P a' b' k'
carried P a a' b b' k k' e f h p =
    subst (λ (x : SinkState). P a' b' x) h (subst (λ (x : SourceState). P a' x k) f (subst (λ (x : SourceState). P x b k) e p))
