-- What the program reads and writes where its words are a form: a session over the bytes of its input and output.
use Rattle.std.specs.Prelude.{◌≡◌, ◌≢◌, ◌⊎◌, ◌<◌, ◌++◌, ℕ, Bool, true, false, not, List, [], ◌∷◌, None, Some, IfSome, Err, length, filter}
use Rattle.std.specs.List.{concat, AllByRecursion}
use Rattle.std.specs.Option.{MatchOption}
use Rattle.fuse_wire.specs.Faults.{last_count, Rose}
use Rattle.fuse_wire.specs.declared.flags.init_flags.InitFlags.{InitFlags}
use Rattle.fuse_wire.specs.Cut.{cut}
use Rattle.fuse_wire.specs.Frames.{frames}
use Rattle.fuse_wire.specs.Sink.{Note as Noted, IsTornFrom}
use Rattle.fuse_wire.specs.ByteSource.{ByteSourceState, TakesBytes, NoByteLeft, StreamFailed}
use Rattle.fuse_wire.specs.ByteSink.{ByteSinkState, PutsBytes}
use Rattle.fuse_wire.specs.StreamSink.{IsTorn}
use Rattle.fuse_reply.specs.declared.out.Out.{Out}
use Rattle.fuse_reply.specs.declared.out.Out.TheVariants.{Frame, Note, Deferred}
use Rattle.fuse_loop.specs.Incoming.{IsBroken, EndsWell}
use Rattle.fuse_dispatch.specs.OwedMessage.{OwedByPromise}
use Rattle.fuse_dispatch.specs.Verdict.{terms}
use Rattle.fuse_core.specs.OnePerMessage.{InOrder, OnePerMessage}
use Rattle.fuse_session.specs.Complete.{OpensWell}
use Rattle.fuse_session.specs.Exchange.{Setup, Dialogue, setup_of}
use Rattle.fuse_session.specs.SessionEnd.{Outcome}
use Rattle.fuse_session.specs.Handshake.{Handshake}
use Rattle.fuse_session.specs.Headline.{Account}
use Rattle.fuse_session.specs.Handshake.HandshakeEnd.{Accepted}
use Rattle.fuse_loop.specs.Progress.{replies, is_notice, NoticeOrReply}
use Rattle.fuse_session.specs.declared.error.SessionError.TheVariants.{Init, Receive}
use Rattle.fuse_program.specs.Status.{status}
use Rattle.fuse_hello.specs.Tree.{tree_promise}
use Rattle.fuse_hello.specs.declared.hello.Hello.{Hello}
use Rattle.fuse_program.specs.declared.arguments.ServeForm.{ServeForm}

-- what a form sets a session up with: the tree, and what its words say
abbrev pub form_setup : ServeForm → Setup Hello
form_setup form = setup_of tree_promise form.page (Some form.threads) form.acl form.owner

-- the count did not rise, and does not stand at its last value
abbrev pub Still : (before after : ℕ) → Type 0
Still before after = (after ≡ before) × (after < last_count)

-- these messages are the first of those that the bytes at the start are cut into
abbrev pub Fronts : (messages : List (List ℕ)) → ByteSourceState → Type 0
Fronts messages input = IfSome input.bytes (λ bytes. (later : List (List ℕ)) × (cut bytes ≡ messages ++ later))

-- The bytes put at the end of the output are these frames, joined, and at most a part of one more. They split into these frames again.
pub record WritesFrames (written : List (List ℕ)) (torn : List ℕ) (output output' : ByteSinkState) : Type 0 where
  pub joined : PutsBytes (concat written ++ torn) output output'
  pub split : IfSome output.bytes (λ held. frames (concat written ++ torn) ≡ written)
  pub part : ∥ IsTorn torn ∥₁

-- a write failed exactly where a frame was refused, and these bytes are torn from the first such frame
abbrev pub TornFromFirst : (refused : List Out) → (broken : Bool) → (torn : List ℕ) → Type 0
TornFromFirst [] broken torn = (broken ≡ false) × (torn ≡ [])
TornFromFirst (Frame f ∷ refused) broken torn = (broken ≡ true) × IsTornFrom f torn
TornFromFirst (Note id mark ∷ refused) broken torn = TornFromFirst refused broken torn
TornFromFirst (Deferred seq id ∷ refused) broken torn = TornFromFirst refused broken torn

-- With status 0 the later messages read are accounted for in this way, by the tree after the handshake and what this granted.
pub record AnsweredBy (account : Account Hello) (form : ServeForm) (input input' : ByteSourceState) (output output' : ByteSinkState) : Type 0 where
  pub tree : Hello
  pub tree1 : Hello
  pub granted : InitFlags
  -- the messages of the handshake, and the later ones
  pub hs : List (List ℕ)
  pub ls : List (List ℕ)
  -- the handshake's replies, and the later ones
  pub handshake_replies : List (List ℕ)
  pub later_replies : List (List ℕ)
  pub appended : List (List ℕ)
  pub notes : List Noted
  -- the messages are the first of the input, and the bytes read are these, joined
  pub front : Fronts (hs ++ ls) input
  pub read : TakesBytes (concat (hs ++ ls)) input input'
  pub handshake : Handshake tree_promise.may_init form.page tree hs handshake_replies tree1 (Accepted granted)
  -- the frames written are the handshake's replies and then the later ones, but for notices
  pub written : WritesFrames appended [] output output'
  pub replied : replies appended ≡ handshake_replies ++ later_replies
  pub set_aside : AllByRecursion NoticeOrReply appended
  pub one_per_message : account tree1 granted ls later_replies notes
  pub ended : EndsWell ls (NoByteLeft input')

-- each message read has its one reply
abbrev pub EachAnswered : (form : ServeForm) → (input input' : ByteSourceState) → (output output' : ByteSinkState) → Type 0
EachAnswered form =
    AnsweredBy (λ tree granted messages replies notes.
    OnePerMessage (OwedByPromise tree_promise tree (terms form.acl form.owner granted)) IsBroken 0 messages replies notes [] 0) form

-- the same in order: each has the first reply that is left
abbrev pub AnsweredInOrder : (form : ServeForm) → (input input' : ByteSourceState) → (output output' : ByteSinkState) → Type 0
AnsweredInOrder form =
    AnsweredBy (λ tree granted messages replies notes.
    InOrder (OwedByPromise tree_promise tree (terms form.acl form.owner granted)) 0 messages replies notes []) form

-- A session over the program's bytes, whose outcome gives its status.
pub record ByteExchange (form : ServeForm) (exit : ℕ) (input input' : ByteSourceState) (output output' : ByteSinkState) : Type 0 where
  pub tree : Hello
  pub tree1 : Hello
  pub tree' : Hello
  pub outcome : Outcome
  -- the messages taken, the replies and notes sent, and those lost; all frames written, and what stands after them of one more; and
  -- all that was refused, with notices among it
  pub messages : List (List ℕ)
  pub sent : List (List ℕ)
  pub notes : List Noted
  pub lost : List Out
  pub appended : List (List ℕ)
  pub torn : List ℕ
  pub refused : List Out
  -- whether a write failed
  pub broken : Bool
  pub status_is : exit ≡ status outcome (length lost) broken
  pub dialogue : Dialogue (form_setup form) tree tree1 outcome (NoByteLeft input') (StreamFailed input input') messages sent notes lost
  pub accepted : (e : ℕ) → outcome ≢ Err (Init e)
  pub destroyed : tree_promise.may_destroy tree1 tree'
  -- The messages are the first of the input, and the bytes read are these, joined; but where the input failed nothing is said of what
  -- else was read.
  pub front : Fronts messages input
  pub read : outcome ≢ Err Receive → TakesBytes (concat messages) input input'
  -- the frames written are the replies sent, and notices
  pub written : WritesFrames appended torn output output'
  pub replied : replies appended ≡ sent
  pub set_aside : AllByRecursion NoticeOrReply appended
  -- what was lost was refused
  pub missed : filter (λ out. not (is_notice out)) refused ≡ lost
  -- where the output tells its bytes, those torn are of the first frame that was refused; no others are
  pub first_refused : MatchOption output.bytes (torn ≡ []) (λ held. TornFromFirst refused broken torn)
  -- nothing is torn where no write failed, and what was refused or failed to be written was counted by the output
  pub whole : broken ≡ false → torn ≡ []
  pub counted : (0 < length refused) ⊎ (broken ≡ true) → Rose output.faults output'.faults

-- The input tells bytes that are cut into messages that open well, some thread is to serve, and neither the input nor the output failed.
pub record InputWell (form : ServeForm) (input input' : ByteSourceState) (output output' : ByteSinkState) : Type 0 where
  pub bytes : List ℕ
  pub told : input.bytes ≡ Some bytes
  pub opens_well : OpensWell (cut bytes)
  pub served : 0 < form.threads
  pub input_still : Still input.faults input'.faults
  pub output_still : Still output.faults output'.faults

-- an input that tells none of its bytes, of which so many reads failed
abbrev pub untold_input : ℕ → ByteSourceState
untold_input failed = record { bytes = None; faults = failed }

-- an output that tells none of its bytes, of which so many writes failed
abbrev pub untold_output : ℕ → ByteSinkState
untold_output failed = record { bytes = None; faults = failed }

-- A session over an input and an output that tell none of their bytes, and had failed nowhere before: its outcome gives the status.
pub record UntoldSession (form : ServeForm) (exit : ℕ) : Type 0 where
  pub failed_reads : ℕ
  pub failed_writes : ℕ
  pub exchange : ByteExchange form exit (untold_input 0) (untold_input failed_reads) (untold_output 0) (untold_output failed_writes)
