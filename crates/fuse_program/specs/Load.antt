-- What `load` does: it serves the generated messages from memory, and writes in one line what that came to.
use Rattle.std.specs.Prelude.{◌≡◌, ◌⊎◌, ◌<◌, ◌++◌, ℕ, Bool, true, false, List, [], length}
use Rattle.fuse_wire.specs.ByteSink.{ByteSinkState}
use Rattle.fuse_wire.specs.Sink.{Note}
use Rattle.fuse_wire.specs.declared.flags.init_flags.InitFlags.{InitFlags}
use Rattle.fuse_wire.specs.StreamSink.{WritesAll}
use Rattle.fuse_config.specs.declared.session_acl.SessionACL.TheVariants.{All}
use Rattle.fuse_session.specs.Handshake.{Handshake}
use Rattle.fuse_session.specs.Handshake.HandshakeEnd.{Accepted}
use Rattle.fuse_loop.specs.Incoming.{IsBroken}
use Rattle.fuse_core.specs.OnePerMessage.{OnePerMessage}
use Rattle.fuse_dispatch.specs.OwedMessage.{OwedByPromise}
use Rattle.fuse_dispatch.specs.Verdict.{terms}
use Rattle.fuse_session.specs.declared.error.SessionError.{SessionError}
use Rattle.fuse_session.specs.declared.error.SessionError.TheVariants.{Memory, Threads}
use Rattle.fuse_hello.specs.Generated.{stream}
use Rattle.fuse_hello.specs.Store.{line, summary_of}
use Rattle.fuse_hello.specs.Tree.{tree_promise}
use Rattle.fuse_hello.specs.declared.hello.Hello.{Hello}
use Rattle.fuse_hello.specs.declared.summary.Summary.{Summary}
use Rattle.fuse_program.specs.declared.arguments.LoadForm.{LoadForm}

-- The frames and notes that the tree is owed to give for these messages: those of the handshake, and one for each later message.
pub record AnsweredByTree (messages frames : List (List ℕ)) (notes : List Note) : Type 0 where
  pub tree : Hello
  pub tree1 : Hello
  pub granted : InitFlags
  -- the messages of the handshake, and the later ones
  pub hs : List (List ℕ)
  pub ls : List (List ℕ)
  -- the handshake's replies, and the later ones
  pub handshake_replies : List (List ℕ)
  pub later_replies : List (List ℕ)
  pub heard : messages ≡ hs ++ ls
  pub said : frames ≡ handshake_replies ++ later_replies
  pub handshake : Handshake tree_promise.may_init 4096 tree hs handshake_replies tree1 (Accepted granted)
  pub one_per_message : OnePerMessage (OwedByPromise tree_promise tree1 (terms All 0 granted)) IsBroken 0 ls later_replies notes [] 0

-- the summary of the stream, whose every message has what it is owed
abbrev pub Summarizes : LoadForm → Summary → Type 0
Summarizes form summary =
    (reply_frames : List (List ℕ)) × (notes : List Note) × AnsweredByTree (stream form.seed form.count) reply_frames notes
    × (summary ≡ summary_of (length (stream form.seed form.count)) reply_frames (length notes))

-- why there is none: there was no memory, or no thread was to serve
abbrev pub IsNoLine : SessionError → (threads : ℕ) → Type 0
IsNoLine error threads = (error ≡ Memory) ⊎ ((error ≡ Threads) × (threads ≡ 0))

-- the line of the stream's summary was written, or its front, by a write that failed
abbrev pub WritesSummary : (whole : Bool) → LoadForm → (output output' : ByteSinkState) → Type 0
WritesSummary whole form output output' =
    (0 < form.threads) × ((summary : Summary) × Summarizes form summary × WritesAll whole (line summary) output output')

-- With the status 0 the line was written, and with 8 a part of it; with 9, for want of memory, and with 10, where no thread was to
-- serve, nothing was.
abbrev pub Loads : LoadForm → (exit : ℕ) → (output output' : ByteSinkState) → Type 0
Loads form exit output output' =
    ((exit ≡ 0) × WritesSummary true form output output')
    ⊎ ((exit ≡ 8) × WritesSummary false form output output')
    ⊎ ((exit ≡ 9) × (output' ≡ output))
    ⊎ ((exit ≡ 10) × (form.threads ≡ 0) × (output' ≡ output))

-- these forms name the same messages, whatever their numbers of threads
abbrev pub SameStream : LoadForm → LoadForm → Type 0
SameStream form other = (form.seed ≡ other.seed) × (form.count ≡ other.count)

-- whichever summary the same messages have, on however many threads they were served, its line was written
abbrev pub WritesOneLine : LoadForm → (output output' : ByteSinkState) → Type 0
WritesOneLine form output output' =
    (other : LoadForm) (summary : Summary) → SameStream form other → Summarizes other summary → WritesAll true (line summary) output output'
