-- What a message after the handshake is to the event loop, whoever sends it: a matter of its header alone.
use Rattle.std.specs.Prelude.{◌≡◌, ◌==◌, ℕ, List, [], ◌∷◌, Result, Ok, Err, if◌then◌else◌}
use Rattle.std.specs.List.{AllByRecursion}
use Rattle.fuse_wire.specs.Numbers.{number}
use Rattle.fuse_header.specs.Header.{header}
use Rattle.fuse_header.specs.Opcode.{FUSE_DESTROY}
use Rattle.fuse_header.specs.declared.header.Header.{Header}
use Rattle.fuse_header.specs.declared.error.RequestError.{RequestError}

pub data Incoming : Type 0 where
  -- it has no good header, and ends the run
  Broken : (e : RequestError) → Incoming
  -- it is DESTROY, which ends the run
  Destroy : Incoming
  -- it is any other request
  Request : Incoming

abbrev pub incoming_by : Result Header RequestError → Incoming
incoming_by (Err e) = Broken e
incoming_by (Ok h) = if h.opcode == FUSE_DESTROY then Destroy else Request

abbrev pub incoming : List ℕ → Incoming
incoming m = incoming_by (header m)

-- the id of the request
abbrev pub id_of : List ℕ → ℕ
id_of m = number m 8 8

-- one message has this refusal of its header
abbrev pub HeaderRefused : RequestError → (refused : List (List ℕ)) → Type 0
HeaderRefused e refused = (last : List ℕ) × (refused ≡ last ∷ []) × (header last ≡ Err e)

-- it has no good header
abbrev pub IsBroken : List ℕ → Type 0
IsBroken m = (e : RequestError) × (header m ≡ Err e)

-- the run goes on after each of these messages
abbrev pub AllGoOn : List (List ℕ) → Type 0
AllGoOn messages = AllByRecursion (λ m. incoming m ≡ Request) messages

-- No message is broken, none but the last is DESTROY, and the last is DESTROY or no message is left after it.
abbrev pub EndsAfter : Incoming → (more : List (List ℕ)) → (rest : Type 0) → Type 0
EndsAfter (Broken e) more rest = ⊥
EndsAfter Destroy more rest = more ≡ []
EndsAfter Request more rest = rest

abbrev pub EndsWell : (messages : List (List ℕ)) → (none_left : Type 0) → Type 0
EndsWell [] none_left = none_left
EndsWell (m ∷ ms) none_left = EndsAfter (incoming m) ms (EndsWell ms none_left)
