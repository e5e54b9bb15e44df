-- The event loop after the handshake: which messages it takes, what they get, and how it ends.
use Rattle.std.specs.Prelude.{◌≡◌, ◌≢◌, ◌++◌, ℕ, List, [], ◌∷◌, Option, None, Some, map, length}
use Rattle.fuse_wire.specs.Source.{Takes, message, NothingLeft, SourceFailed}
use Rattle.fuse_wire.specs.Sink.{Note}
use Rattle.fuse_reply.specs.declared.out.Out.{Out}
use Rattle.fuse_loop.specs.Incoming.{AllGoOn, HeaderRefused, incoming}
use Rattle.fuse_loop.specs.Incoming.Incoming.{Destroy}
use Rattle.fuse_core.specs.OnePerMessage.{Accounting, Owing, InOrder, number_of}
use Rattle.fuse_loop.specs.Progress.{Progress, Moves, Begins}
use Rattle.fuse_loop.specs.declared.end.End.{End}
use Rattle.fuse_loop.specs.declared.end.End.TheVariants.{Gone, Destroyed, Broken, Failed}

-- How a run that answered these messages ended: no message was left; at DESTROY; at a message without a good header, which alone
-- is not answered; or at a fault of the source.
abbrev pub RunEnds : End → (answered refused : List (List ℕ)) → (none_left failed : Type 0) → Type 0
RunEnds Gone answered refused none_left failed = (refused ≡ []) × AllGoOn answered × none_left
RunEnds Destroyed answered refused none_left failed =
    (refused ≡ []) × ((front : List (List ℕ)) × (last : List ℕ) × (answered ≡ front ++ last ∷ []) × AllGoOn front × (incoming last ≡ Destroy))
RunEnds (Broken e) answered refused none_left failed = HeaderRefused e refused × AllGoOn answered
RunEnds Failed answered refused none_left failed = (refused ≡ []) × AllGoOn answered × failed

-- a run, whose messages are accounted for in this way
pub record Run (accounted : Accounting) (end : End) (before after : Progress) : Type 0 where
  pub turns : List (List ℕ)
  pub answered : List (List ℕ)
  pub refused : List (List ℕ)
  pub sent : List (List ℕ)
  pub notes : List Note
  pub lost : List Out
  pub heard : map message turns ≡ answered ++ refused
  pub order : accounted answered sent notes lost
  pub moved : Moves (length turns) sent notes lost before after
  pub begins : Begins turns before.source
  pub taken : end ≢ Failed → Takes turns before.source after.source
  pub ended : RunEnds end answered refused (NothingLeft after.source) (SourceFailed before.source after.source)

-- a run so far, after which it goes on
pub record RunOn (owed : Owing) (place : ℕ) (before after : Progress) : Type 0 where
  pub turns : List (List ℕ)
  pub sent : List (List ℕ)
  pub notes : List Note
  pub lost : List Out
  pub order : InOrder owed place (map message turns) sent notes lost
  pub moved : Moves (length turns) sent notes lost before after
  pub taken : Takes turns before.source after.source
  pub go_on : AllGoOn (map message turns)

-- one turn of the loop, at any place of this number: the run ends, or goes on after one message
abbrev pub OneTurn : Owing → (seq : ℕ) → Option End → (before after : Progress) → Type 0
OneTurn owed seq None before after = (place : ℕ) → number_of place ≡ seq → (run : RunOn owed place before after) × (length run.turns ≡ 1)
OneTurn owed seq (Some end) before after = (place : ℕ) → number_of place ≡ seq → Run (InOrder owed place) end before after
