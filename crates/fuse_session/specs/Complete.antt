-- When a session must end well: nothing is amiss with what the kernel sends, the filesystem, the source and the number of threads.
use Rattle.std.specs.Prelude.{◌≡◌, ◌≢◌, ◌⊎◌, ◌<◌, ◌≤◌, ℕ, List, [], ◌∷◌, map, Option, Some, Ok, Err}
use Rattle.fuse_wire.specs.Faults.{last_count}
use Rattle.fuse_wire.specs.Source.{SourceState, message}
use Rattle.fuse_config.specs.Values.{Configuration}
use Rattle.fuse_args.specs.declared.fixed.InitArguments.{InitArguments}
use Rattle.fuse_header.specs.Header.{header, body}
use Rattle.fuse_request.specs.Decoding.{operation}
use Rattle.fuse_request.specs.Operation.Op.{Init}
use Rattle.fuse_header.specs.declared.header.Header.{Header}
use Rattle.fuse_header.specs.declared.request.Request.{Request}
use Rattle.fuse_loop.specs.Incoming.{incoming}
use Rattle.fuse_loop.specs.Incoming.Incoming.{Destroy, Request as IsRequest}
use Rattle.fuse_dispatch.specs.Promise.{MayInit}
use Rattle.fuse_session.specs.Ran.{Opened}

-- its header is good, and it decodes to this INIT
pub record IsInit (m : List ℕ) (init : InitArguments) : Type 0 where
  pub head : Header
  pub good : header m ≡ Ok head
  pub decodes : operation 0 head.opcode (body m) ≡ Ok (Init init)

-- the headers are good up to the first DESTROY, after which may stand anything
abbrev pub GoodHeaders : List (List ℕ) → Type 0
GoodHeaders [] = Unit {0}
GoodHeaders (m ∷ ms) = (incoming m ≡ Destroy) ⊎ ((incoming m ≡ IsRequest) × GoodHeaders ms)

-- some INITs of a major version above 7, or none; one of version 7.6 to 7.x; and after it what `Later` says
abbrev pub Opens : (Later : List (List ℕ) → Type 0) → List (List ℕ) → Type 0
Opens Later [] = ⊥
Opens Later (m ∷ ms) = (init : InitArguments) × IsInit m init
    × (((7 < init.major) × Opens Later ms) ⊎ ((init.major ≡ 7) × (6 ≤ init.minor) × Later ms))

-- an INIT that can be accepted, and then good headers up to the first DESTROY; or then anything
abbrev pub OpensWell : List (List ℕ) → Type 0
OpensWell = Opens GoodHeaders

abbrev pub OpensAtLeast : List (List ℕ) → Type 0
OpensAtLeast = Opens (λ _. Unit {0})

-- `init` may refuse no INIT
abbrev pub AcceptsAll : {F : Type 0} → MayInit F → F → Type 0
AcceptsAll {F} may_init fs =
    (request : Request) (config0 config : Configuration) (e : ℕ) (fs1 : F) → ¬ (may_init fs request config0 (Err e) fs1 config)

-- the source did not fail
pub record Unfailing (before after : SourceState) : Type 0 where
  pub same : after.faults ≡ before.faults
  pub counts : before.faults < last_count

-- The source tells messages that open well, and did not fail; some thread is to serve; and `init` refuses no INIT.
pub record SessionWell {F : Type 0} (may_init : MayInit F) (threads : Option ℕ) (fs : F) (before after : SourceState) : Type 0 where
  pub turns : List (List ℕ)
  pub told : before.turns ≡ Some turns
  pub opens_well : OpensWell (map message turns)
  pub accepts : AcceptsAll may_init fs
  pub served : threads ≢ Some 0
  pub unfailing : Unfailing before after

-- For a handshake alone: the source tells messages that begin with one, and did not fail; and `init` refuses no INIT.
pub record HandshakeWell {F : Type 0} (may_init : MayInit F) (fs : F) (before after : SourceState) : Type 0 where
  pub turns : List (List ℕ)
  pub told : before.turns ≡ Some turns
  pub opens : OpensAtLeast (map message turns)
  pub accepts : AcceptsAll may_init fs
  pub unfailing : Unfailing before after

-- For a run after it: the source tells good headers up to the first DESTROY, and did not fail; and some thread is to serve.
pub record RunWell {F S K : Type 0} (session : Opened F S K) (after : SourceState) : Type 0 where
  pub turns : List (List ℕ)
  pub told : session.progress.source.turns ≡ Some turns
  pub good : GoodHeaders (map message turns)
  pub served : session.threads ≢ Some 0
  pub unfailing : Unfailing session.progress.source after
