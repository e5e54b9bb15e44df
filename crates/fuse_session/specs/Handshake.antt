-- The handshake: what each message before an accepted INIT gets, and how it ends.
use Rattle.std.specs.Prelude.{◌≡◌, ◌≤◌, ◌&&◌, ◌||◌, ◌==◌, ℕ, Bool, List, []}
use Rattle.std.specs.Prelude.{◌∷◌, Option, None, Some, Result, Ok, Err, nat_lt, pos, if◌then◌else◌}
use Rattle.fuse_args.specs.declared.fixed.InitArguments.{InitArguments}
use Rattle.fuse_wire.specs.ErrorNumbers.{EIO, EPROTO}
use Rattle.fuse_wire.specs.declared.flags.init_flags.InitFlags.{InitFlags}
use Rattle.fuse_config.specs.Values.{Configuration}
use Rattle.fuse_config.specs.Configuration.{granted_of, start, init_payload, version_payload}
use Rattle.fuse_header.specs.declared.error.RequestError.{RequestError}
use Rattle.fuse_header.specs.declared.header.Header.{Header}
use Rattle.fuse_header.specs.declared.request.Request.{Request}
use Rattle.fuse_header.specs.Header.{header, body, request_of}
use Rattle.fuse_request.specs.InitOperation.{offered, version}
use Rattle.fuse_request.specs.Operation.{Op}
use Rattle.fuse_request.specs.Decoding.{operation}
use Rattle.fuse_request.specs.Operation.Op.{Init}
use Rattle.fuse_reply.specs.Answer.{IsAnswer}
use Rattle.fuse_reply.specs.Answer.Answer.{Error}
use Rattle.fuse_reply.specs.Frame.{frame, reply}
use Rattle.fuse_dispatch.specs.Promise.{MayInit}
use Rattle.fuse_session.specs.declared.invalid_data.InvalidData.TheVariants as invalid
use Rattle.fuse_session.specs.declared.greeting.Greeting.{Greeting}
use Rattle.fuse_session.specs.declared.greeting.Greeting.TheVariants.{Silent, NotInit, Old, Newer, Offered}
use Rattle.fuse_session.specs.declared.greeting.HandshakeError.{HandshakeError}
use Rattle.fuse_session.specs.declared.greeting.HandshakeError.TheVariants as refusal
use Rattle.fuse_session.specs.declared.greeting.Offer.{Offer}

-- a version below 7.6
abbrev pub is_old : InitArguments → Bool
is_old i = nat_lt i.major 7 || ((i.major == 7) && nat_lt i.minor 6)

-- what an INIT offers: the capabilities, the readahead and the version
abbrev pub offer_of : InitArguments → Offer
offer_of i = record { capabilities = record { 0 = offered i }; max_readahead = i.max_readahead; version = version i }

-- what an INIT comes to, by its version
abbrev pub greeting_by_version : Header → InitArguments → Greeting
greeting_by_version h i =
    if nat_lt 7 i.major then Newer h.unique
    else if is_old i then Old h.unique (version i)
    else Offered (request_of h) (offer_of i)

-- what INIT carries, where it is one
abbrev pub init_of : Op → Option InitArguments
init_of (Init i) = Some i
init_of op = None

abbrev pub greeting_by_init : Header → Option InitArguments → Greeting
greeting_by_init h None = NotInit h.unique h.opcode
greeting_by_init h (Some i) = greeting_by_version h i

abbrev pub greeting_by_operation : Header → Result Op RequestError → Greeting
greeting_by_operation h (Err e) = Silent (invalid.Operation e)
greeting_by_operation h (Ok op) = greeting_by_init h (init_of op)

-- nothing is granted yet
abbrev pub greeting_by_header : Result Header RequestError → (rest : List ℕ) → Greeting
greeting_by_header (Err e) rest = Silent (invalid.Header e)
greeting_by_header (Ok h) rest = greeting_by_operation h (operation 0 h.opcode rest)

-- What the library makes of a message in the handshake: it is no good message; it is no INIT; or it is an INIT whose version is too
-- old, of a later major version, or one that the filesystem is asked about.
abbrev pub greeting : List ℕ → Greeting
greeting m = greeting_by_header (header m) (body m)

-- no version below 7.6 is offered to the filesystem
abbrev pub IsSpoken : Greeting → Type 0
IsSpoken (Silent d) = Unit {0}
IsSpoken (NotInit id opcode) = Unit {0}
IsSpoken (Old id v) = Unit {0}
IsSpoken (Newer id) = Unit {0}
IsSpoken (Offered request offer) = 6 ≤ offer.version.1

-- how a handshake ends: no message is left; an INIT was accepted, and these capabilities were granted; or a message was refused
pub data HandshakeEnd : Type 0 where
  Open : HandshakeEnd
  Accepted : (granted : InitFlags) → HandshakeEnd
  Failed : (e : HandshakeError) → HandshakeEnd

-- what `init` answered is the reply: an error with a number in range, or what was negotiated
abbrev pub NegotiationReply : (id : ℕ) → Offer → (page : ℕ) → Configuration → Result (Unit {0}) ℕ → (frames : List (List ℕ)) → HandshakeEnd → Type 0
NegotiationReply id offer page config (Err e) frames end =
    (frames ≡ reply id (Error e) ∷ []) × (end ≡ Failed (refusal.Init e)) × IsAnswer (Error e)
NegotiationReply id offer page config (Ok u) frames end =
    (frames ≡ frame id (pos 0) (init_payload config offer.capabilities.0 offer.version.1 page) ∷ [])
    × (end ≡ Accepted (record { 0 = granted_of config offer.capabilities.0 }))

-- an INIT was accepted
abbrev pub IsAccepted : HandshakeEnd → Type 0
IsAccepted end = (granted : InitFlags) × (end ≡ Accepted granted)

-- what was granted: nothing, where no INIT was accepted
abbrev pub granted_by : HandshakeEnd → InitFlags
granted_by Open = record { 0 = 0 }
granted_by (Accepted granted) = granted
granted_by (Failed e) = record { 0 = 0 }

-- the filesystem's `init` may do so from the start values of this INIT
pub record Negotiates {F : Type 0} (may_init : MayInit F) (page : ℕ) (fs : F) (request : Request) (offer : Offer)
    (frames : List (List ℕ)) (fs1 : F) (end : HandshakeEnd) : Type 0 where
  pub config : Configuration
  pub result : Result (Unit {0}) ℕ
  pub allowed : may_init fs request (start offer.capabilities.0 offer.max_readahead offer.version) result fs1 config
  pub replies : NegotiationReply request.unique.0 offer page config result frames end

-- one message, where `later` says what the messages after it give
abbrev pub Greets : {F : Type 0} → MayInit F → (page : ℕ) → F → Greeting → (others frames : List (List ℕ)) → F → HandshakeEnd
    → (later : List (List ℕ) → Type 0) → Type 0
Greets may_init page fs (Silent d) others frames fs1 end later =
    (others ≡ []) × (frames ≡ []) × (fs1 ≡ fs) × (end ≡ Failed (refusal.InvalidData d))
Greets may_init page fs (NotInit id opcode) others frames fs1 end later =
    (others ≡ []) × (frames ≡ reply id.0 (Error EIO) ∷ []) × (fs1 ≡ fs) × (end ≡ Failed (refusal.InvalidData (invalid.NotInit opcode)))
Greets may_init page fs (Old id v) others frames fs1 end later =
    (others ≡ []) × (frames ≡ reply id.0 (Error EPROTO) ∷ []) × (fs1 ≡ fs) × (end ≡ Failed (refusal.Unsupported v))
Greets may_init page fs (Newer id) others frames fs1 end later =
    (rest : List (List ℕ)) × (frames ≡ frame id.0 (pos 0) version_payload ∷ rest) × later rest
Greets may_init page fs (Offered request offer) others frames fs1 end later =
    (others ≡ []) × Negotiates may_init page fs request offer frames fs1 end

-- The messages of a handshake, in order; the frames that they get; the filesystem after it; and how it ends.
abbrev pub Handshake : {F : Type 0} → MayInit F → (page : ℕ) → F → (messages frames : List (List ℕ)) → F → HandshakeEnd → Type 0
Handshake may_init page fs [] frames fs1 end = (frames ≡ []) × (fs1 ≡ fs) × (end ≡ Open)
Handshake may_init page fs (m ∷ ms) frames fs1 end =
    Greets may_init page fs (greeting m) ms frames fs1 end (λ rest. Handshake may_init page fs ms rest fs1 end)
