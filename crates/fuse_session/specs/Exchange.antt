-- A whole session: what it heard, what it said and lost, and why it ended.
use Rattle.std.specs.Prelude.{◌≡◌, ◌≢◌, ◌⊎◌, ◌++◌, ℕ, List, [], Option, Some, Ok, Err, map, length}
use Rattle.fuse_wire.specs.Source.{SourceState, Takes, message, NothingLeft, SourceFailed}
use Rattle.fuse_wire.specs.Sink.{SinkState, Note}
use Rattle.fuse_config.specs.declared.config.Config.{Config}
use Rattle.fuse_config.specs.declared.session_acl.SessionACL.{SessionACL}
use Rattle.fuse_header.specs.declared.error.RequestError.{RequestError}
use Rattle.fuse_reply.specs.declared.out.Out.{Out}
use Rattle.fuse_reply.specs.declared.out.Out.TheVariants.{Frame}
use Rattle.fuse_session.specs.Accounted.{Accounted}
use Rattle.fuse_session.specs.SessionEnd.{Outcome}
use Rattle.fuse_dispatch.specs.Promise.{Promise}
use Rattle.fuse_loop.specs.Incoming.{AllGoOn, EndsWell, HeaderRefused}
use Rattle.fuse_dispatch.specs.OwedMessage.{OwedByPromise}
use Rattle.fuse_dispatch.specs.Verdict.{terms}
use Rattle.fuse_dispatch.specs.declared.access.Terms.{Terms}
use Rattle.fuse_session.specs.Handshake.{HandshakeEnd, Handshake, IsAccepted, granted_by}
use Rattle.fuse_session.specs.Handshake.HandshakeEnd.{Open, Failed}
use Rattle.fuse_loop.specs.Progress.{Progress, Moves, Begins, LeavesOut, nothing_yet, progress}
use Rattle.fuse_session.specs.declared.invalid_data.InvalidData.TheVariants.{Header}
use Rattle.fuse_session.specs.declared.error.SessionError.TheVariants.{Conflict, AutoUnmount, CloneFd, Memory}
use Rattle.fuse_session.specs.declared.error.SessionError.TheVariants.{NotConnected, InvalidData, Unsupported, Init, Threads, Receive}
use Rattle.fuse_session.specs.declared.greeting.HandshakeError.TheVariants as refusal
use Rattle.fuse_loop.specs.declared.transcript.Transcript.{Transcript}

-- what a session is set up with
pub record Setup (F : Type 0) : Type 1 where
  pub promise : Promise F
  pub page : ℕ
  pub threads : Option ℕ
  pub acl : SessionACL
  pub owner : ℕ

abbrev pub setup_of : {F : Type 0} → Promise F → (page : ℕ) → (threads : Option ℕ) → SessionACL → (owner : ℕ) → Setup F
setup_of promise page threads acl owner = record { promise = promise; page = page; threads = threads; acl = acl; owner = owner }

abbrev pub setup : {F : Type 0} → Promise F → (page : ℕ) → Config → (owner : ℕ) → Setup F
setup promise page config owner = setup_of promise page config.n_threads config.acl owner

-- the terms of a session whose handshake ended so
abbrev pub terms_after : {F : Type 0} → Setup F → HandshakeEnd → Terms
terms_after setup end = terms setup.acl setup.owner (granted_by end)

-- the handshake ended so, and no message came after it
abbrev pub HandshakeAlone : (ended : Type 0) → (answered refused : List (List ℕ)) → Type 0
HandshakeAlone ended answered refused = ended × (answered ≡ []) × (refused ≡ [])

-- the handshake was accepted, and some thread is to serve the run after it
abbrev pub RunFollows : (threads : Option ℕ) → HandshakeEnd → Type 0
RunFollows threads end = IsAccepted end × (threads ≢ Some 0)

-- Why a session had this outcome. Ok: all later messages were answered, up to the last one there is, or DESTROY. NotConnected: no
-- message was left in the handshake. InvalidData: the handshake ended so, or the last header is refused. Unsupported and Init: the
-- handshake ended so. Threads: it was accepted, but no thread was to serve. Receive: the source failed.
abbrev pub EndedBy : Outcome → (threads : Option ℕ) → HandshakeEnd → (answered refused : List (List ℕ)) → (none_left failed : Type 0) → Type 0
EndedBy (Ok u) threads end answered refused none_left failed =
    RunFollows threads end × (refused ≡ []) × EndsWell answered none_left
EndedBy (Err (Conflict first second)) threads end answered refused none_left failed = ⊥
EndedBy (Err AutoUnmount) threads end answered refused none_left failed = ⊥
EndedBy (Err CloneFd) threads end answered refused none_left failed = ⊥
EndedBy (Err Memory) threads end answered refused none_left failed = ⊥
EndedBy (Err NotConnected) threads end answered refused none_left failed = HandshakeAlone (end ≡ Open) answered refused × none_left
EndedBy (Err (InvalidData d)) threads end answered refused none_left failed =
    HandshakeAlone (end ≡ Failed (refusal.InvalidData d)) answered refused
    ⊎ (RunFollows threads end × AllGoOn answered × ((e : RequestError) × (d ≡ Header e) × HeaderRefused e refused))
EndedBy (Err (Unsupported v)) threads end answered refused none_left failed =
    HandshakeAlone (end ≡ Failed (refusal.Unsupported v)) answered refused
EndedBy (Err (Init e)) threads end answered refused none_left failed =
    HandshakeAlone (end ≡ Failed (refusal.Init e)) answered refused
EndedBy (Err Threads) threads end answered refused none_left failed = HandshakeAlone (IsAccepted end) answered refused × (threads ≡ Some 0)
EndedBy (Err Receive) threads end answered refused none_left failed =
    failed × (HandshakeAlone (end ≡ Open) answered refused ⊎ (RunFollows threads end × AllGoOn answered × (refused ≡ [])))

-- What was heard and said, whatever carried it: these messages were taken, these replies and notes were sent, and these replies and
-- notes were lost. `none_left` says that no message was left, and `failed` that the source failed.
pub record Dialogue {F : Type 0} (setup : Setup F) (fs fs1 : F) (outcome : Outcome) (none_left failed : Type 0)
    (messages sent : List (List ℕ)) (notes : List Note) (lost : List Out) : Type 0 where
  -- the messages of the handshake, the later ones that were answered, and after these one whose header is refused, or none
  pub hs : List (List ℕ)
  pub answered : List (List ℕ)
  pub refused : List (List ℕ)
  -- the handshake's replies, those of them that were sent, and the later ones that were
  pub handshake_replies : List (List ℕ)
  pub handshake_sent : List (List ℕ)
  pub later_sent : List (List ℕ)
  pub end : HandshakeEnd
  -- the replies of the handshake that were lost, and what of the later messages was
  pub lost_first : List (List ℕ)
  pub lost_later : List Out
  pub heard : messages ≡ hs ++ (answered ++ refused)
  pub handshake : Handshake setup.promise.may_init setup.page fs hs handshake_replies fs1 end
  pub left_out : LeavesOut lost_first handshake_replies handshake_sent
  pub accounted : Accounted setup.threads setup.promise.defers (OwedByPromise setup.promise fs1 (terms_after setup end)) answered later_sent notes lost_later
  pub said : sent ≡ handshake_sent ++ later_sent
  pub missed : lost ≡ map Frame lost_first ++ lost_later
  pub ended : EndedBy outcome setup.threads end answered refused none_left failed

-- A session between a source and a sink. Where the source failed, what it tells after the messages taken is not known.
pub record Exchange {F : Type 0} (setup : Setup F) (fs fs1 : F) (outcome : Outcome) (before after : Progress) : Type 0 where
  pub turns : List (List ℕ)
  pub sent : List (List ℕ)
  pub notes : List Note
  pub lost : List Out
  pub dialogue : Dialogue setup fs fs1 outcome (NothingLeft after.source) (SourceFailed before.source after.source)
      (map message turns) sent notes lost
  pub begins : Begins turns before.source
  pub taken : outcome ≢ Err Receive → Takes turns before.source after.source
  pub moved : Moves (length turns) sent notes lost before after

-- a whole session, at whose end `destroy` was called once
pub record Mounted {F : Type 0} (setup : Setup F) (fs fs' : F) (outcome : Outcome)
    (source source' : SourceState) (sink sink' : SinkState) (counts : Transcript) : Type 0 where
  -- the filesystem after the handshake, and the notices that were taken off the frame line
  pub fs1 : F
  pub unasked : List (List ℕ)
  pub exchange : Exchange setup fs fs1 outcome (progress source sink nothing_yet []) (progress source' sink' counts unasked)
  pub destroyed : setup.promise.may_destroy fs1 fs'

-- a session that was no more than its handshake, in which no INIT was accepted
pub record Unopened {F : Type 0} (setup : Setup F) (fs fs1 : F) (outcome : Outcome) (before after : Progress) : Type 0 where
  pub exchange : Exchange setup fs fs1 outcome before after
  pub unaccepted : ¬ (IsAccepted exchange.dialogue.end)

-- the same from its start, with its end, at which `destroy` was called once
pub record Closed {F : Type 0} (setup : Setup F) (fs fs' : F) (outcome : Outcome)
    (source source' : SourceState) (sink sink' : SinkState) (counts : Transcript) : Type 0 where
  pub fs1 : F
  pub unasked : List (List ℕ)
  pub unopened : Unopened setup fs fs1 outcome (progress source sink nothing_yet []) (progress source' sink' counts unasked)
  pub destroyed : setup.promise.may_destroy fs1 fs'
