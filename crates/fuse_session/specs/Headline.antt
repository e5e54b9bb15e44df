-- When a session ends well: each message that it took has the one reply that it is owed.
use Rattle.std.specs.Prelude.{◌≡◌, ◌⊎◌, ◌++◌, ℕ, List, [], map}
use Rattle.std.specs.List.{AllByRecursion}
use Rattle.fuse_wire.specs.Source.{SourceState, Takes, message, NothingLeft}
use Rattle.fuse_wire.specs.Sink.{SinkState, Note, Appends}
use Rattle.fuse_wire.specs.declared.flags.init_flags.InitFlags.{InitFlags}
use Rattle.fuse_config.specs.declared.session_acl.SessionACL.{SessionACL}
use Rattle.fuse_loop.specs.Incoming.{IsBroken, EndsWell}
use Rattle.fuse_dispatch.specs.OwedMessage.{OwedByPromise}
use Rattle.fuse_dispatch.specs.Verdict.{terms}
use Rattle.fuse_core.specs.OnePerMessage.{InOrder, OnePerMessage}
use Rattle.fuse_workers.specs.OnePerMessageLater.{OnePerMessageLater}
use Rattle.fuse_dispatch.specs.Promise.{Promise}
use Rattle.fuse_session.specs.Handshake.{Handshake}
use Rattle.fuse_session.specs.Handshake.HandshakeEnd.{Accepted}
use Rattle.fuse_loop.specs.Progress.{Quiet, replies, NoticeOrReply}
use Rattle.fuse_loop.specs.declared.transcript.Transcript.{Transcript}

-- nothing was lost: the sink shows it, or the transcript
abbrev pub Lossless : SinkState → SinkState → Transcript → Type 0
Lossless sink sink' t' = Quiet sink sink' ⊎ (t'.lost ≡ 0)

-- how the later messages are accounted for, by the filesystem after the handshake and what this granted
abbrev pub Account : Type 0 → Type 1
Account F = (fs1 : F) → (granted : InitFlags) → (messages later_replies : List (List ℕ)) → (notes : List Note) → Type 0

-- a session that ended well, whose later messages are accounted for in this way
pub record EndedWell {F : Type 0} (account : Account F) (promise : Promise F) (page : ℕ) (fs : F)
    (before after : SourceState) (sink sink' : SinkState) : Type 0 where
  -- the turns of the handshake, and the later ones
  pub hs : List (List ℕ)
  pub ls : List (List ℕ)
  -- the handshake's replies, and the later ones
  pub handshake_replies : List (List ℕ)
  pub later_replies : List (List ℕ)
  pub appended : List (List ℕ)
  pub notes : List Note
  pub fs1 : F
  pub granted : InitFlags
  -- the turns at the start are these, and then those left
  pub taken : Takes (hs ++ ls) before after
  pub handshake : Handshake promise.may_init page fs (map message hs) handshake_replies fs1 (Accepted granted)
  -- the frames written are the handshake's replies and then the later ones, but for notices
  pub written : Appends appended notes sink sink'
  pub replied : replies appended ≡ handshake_replies ++ later_replies
  pub set_aside : AllByRecursion NoticeOrReply appended
  pub one_per_message : account fs1 granted (map message ls) later_replies notes
  pub ended : EndsWell (map message ls) (NothingLeft after)

-- each later message has the one reply that it is owed, or a note
abbrev pub Headline : {F : Type 0} → Promise F → (page : ℕ) → SessionACL → (owner : ℕ) → (fs : F) → (before after : SourceState) → (sink sink' : SinkState)
    → Type 0
Headline promise page acl owner =
    EndedWell (λ fs1 granted messages replies notes. OnePerMessage (OwedByPromise promise fs1 (terms acl owner granted)) IsBroken 0 messages replies notes [] 0) promise page

-- the same in order: each later message has the first reply that is left, or the first note
abbrev pub OrderedHeadline : {F : Type 0} → Promise F → (page : ℕ) → SessionACL → (owner : ℕ) → (fs : F) → (before after : SourceState)
    → (sink sink' : SinkState) → Type 0
OrderedHeadline promise page acl owner =
    EndedWell (λ fs1 granted messages replies notes. InOrder (OwedByPromise promise fs1 (terms acl owner granted)) 0 messages replies notes []) promise page

-- the same where replies may come later
abbrev pub LaterHeadline : {F : Type 0} → Promise F → (page : ℕ) → SessionACL → (owner : ℕ) → (fs : F) → (before after : SourceState)
    → (sink sink' : SinkState) → Type 0
LaterHeadline promise page acl owner =
    EndedWell (λ fs1 granted messages replies notes. OnePerMessageLater (OwedByPromise promise fs1 (terms acl owner granted)) IsBroken messages replies notes []) promise page
