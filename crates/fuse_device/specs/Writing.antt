-- What a write of a frame's part passes on, and what it holds back.
use Rattle.std.specs.Prelude.{◌≡◌, ◌⊎◌, ◌<◌, ◌≤◌, ◌++◌, ℕ, [], List, length, take, Option, Result, MatchResult}
use Rattle.std.specs.Io.KnownBytes.{Appends, Keeps}
use Rattle.fuse_wire.specs.Faults.{counted}
use Rattle.fuse_wire.specs.Frames.{IsFrame, frame_length}
use Rattle.std.specs.declared.io.Error.{Error}
use Rattle.fuse_device.specs.declared.frame_writer.FrameWriter.{FrameWriter}
use Rattle.fuse_device.specs.declared.frame_writer.Put.{Put}
use Rattle.fuse_device.specs.declared.frame_writer.Put.TheVariants.{Wrote, PassedOver, Failed}

-- the writer below
abbrev pub frames_below : {W : Type 0} → FrameWriter W → W
frames_below frames = frames.writer

-- the bytes that were taken and did not go below yet
abbrev pub held_back : {W : Type 0} → FrameWriter W → List ℕ
held_back frames = frames.held.items

-- how many frames nobody waited for
abbrev pub passed_over : {W : Type 0} → FrameWriter W → ℕ
passed_over frames = frames.passed_over

-- These bytes were taken, and some were put below: what was held and was taken is what was put and is held, in this order.
pub record Carries (taken held held' : List ℕ) (below below' : Option (List ℕ)) : Type 0 where
  pub put : List ℕ
  pub bytes : Appends below below' put
  pub order : held ++ taken ≡ put ++ held'

-- The piece ends a frame of which nothing was put below and nobody waits for it: it is let go whole, and counted.
pub record PassesOver (piece : List ℕ) (taken : ℕ) (held held' : List ℕ) (below below' : Option (List ℕ)) (count count' : ℕ) : Type 0 where
  pub whole : IsFrame (held ++ piece)
  pub all : taken ≡ length piece
  pub none_held : held' ≡ []
  pub nothing_put : Keeps below below'
  pub counts : count' ≡ counted count 1

-- the header of a frame whose payload is still to come
pub record IsHeader (bytes : List ℕ) : Type 0 where
  pub size : length bytes ≡ 16
  pub longer : 16 < frame_length bytes

-- once bytes were taken nothing is held, or just a header whose payload is still to come
abbrev pub HoldsHeader : (piece held' : List ℕ) → Type 0
HoldsHeader piece held' = (held' ≡ []) ⊎ ((held' ≡ piece) × IsHeader piece)

-- so many bytes of the piece were taken: they were carried on, or nobody waits for the frame that they end
abbrev pub Takes : (taken : ℕ) (piece held held' : List ℕ) (below below' : Option (List ℕ)) (count count' : ℕ) → Type 0
Takes taken piece held held' below below' count count' =
    (Carries (take taken piece) held held' below below' × (count' ≡ count)) ⊎ PassesOver piece taken held held' below below' count count'

-- what a write does that lets no frame go, by its answer
abbrev pub CarriesBy : Result ℕ Error → (piece held held' : List ℕ) (below below' : Option (List ℕ)) (count count' : ℕ) → Type 0
CarriesBy result piece held held' below below' count count' = MatchResult result
    (λ taken. Carries (take taken piece) held held' below below' × (count' ≡ count))
    (λ _. Carries [] held held' below below' × (count' ≡ count))

-- what a write does, by its answer: after an error nothing of the piece was taken, though some of what was held may be below
abbrev pub WritesThrough : Result ℕ Error → (piece held held' : List ℕ) (below below' : Option (List ℕ)) (count count' : ℕ) → Type 0
WritesThrough result piece held held' below below' count count' = MatchResult result
    (λ taken. Takes taken piece held held' below below' count count')
    (λ _. Carries [] held held' below below' × (count' ≡ count))

-- what one write below does
abbrev pub PutsBelow : Put → List ℕ → Option (List ℕ) → Option (List ℕ) → Type 0
PutsBelow (Wrote n) bytes below below' = (n ≤ length bytes) × Appends below below' (take n bytes)
PutsBelow PassedOver bytes below below' = IsFrame bytes × Keeps below below'
PutsBelow (Failed e) bytes below below' = Keeps below below'
