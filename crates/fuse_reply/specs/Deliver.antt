-- What becomes of what goes out.
use Rattle.std.specs.Prelude.{◌≡◌, [], ◌∷◌, List, Option, false}
use Rattle.fuse_reply.specs.Frame.{is_set_aside}
use Rattle.fuse_wire.specs.Sink.{SinkState, Tail, Puts, Refuses, Tears}
use Rattle.fuse_reply.specs.declared.out.Out.{Out}
use Rattle.fuse_reply.specs.declared.out.Out.TheVariants.{Frame, Note, Deferred}
use Rattle.fuse_reply.specs.declared.out.OutEnd.{OutEnd}
use Rattle.fuse_reply.specs.declared.out.OutEnd.TheVariants.{Written, Noted, Lost, Marked}

-- How a stream ends after these were lost, one after another: the first frame among them is the one that is torn, unless a write had
-- failed before. Notes tear nothing.
abbrev pub LeavesTail : (lost : List Out) → (before after : Option Tail) → Type 0
LeavesTail [] before after = after ≡ before
LeavesTail (Frame f ∷ lost) before after = Tears f before after
LeavesTail (Note id mark ∷ lost) before after = LeavesTail lost before after
LeavesTail (Deferred seq id ∷ lost) before after = LeavesTail lost before after

-- a frame is put at the end, or refused; a note likewise; nothing is sent for what is deferred
abbrev pub Delivers : OutEnd → Out → SinkState → SinkState → Type 0
Delivers Written (Frame f) before after = Puts (f ∷ []) [] before after
Delivers Lost (Frame f) before after = Refuses before after × Tears f before.tail after.tail
Delivers Noted (Frame f) before after = ⊥
Delivers Marked (Frame f) before after = ⊥
Delivers Noted (Note id mark) before after = Puts [] ((id.0, mark) ∷ []) before after
Delivers Lost (Note id mark) before after = Refuses before after × (after.tail ≡ before.tail)
Delivers Written (Note id mark) before after = ⊥
Delivers Marked (Note id mark) before after = ⊥
Delivers Marked (Deferred seq id) before after = after ≡ before
Delivers Written (Deferred seq id) before after = ⊥
Delivers Noted (Deferred seq id) before after = ⊥
Delivers Lost (Deferred seq id) before after = ⊥

-- its frame, where it is one, is not set aside
abbrev pub NoNotice : Out → Type 0
NoNotice (Frame f) = is_set_aside f ≡ false
NoNotice (Note id mark) = Unit {0}
NoNotice (Deferred seq id) = Unit {0}
