use Rattle.std.proofs.Common.{◌∙◌, ℕ, true, false, ap, sym, refl}
use Rattle.fuse_wire.specs.ErrorNumbers.{ENOENT}
use Rattle.fuse_reply.specs.Answer.Answer.{Entry}
use Rattle.fuse_dispatch.proofs.Answering.{Answered-error, Answered-frame}
use Rattle.uses.proofs.Nodes.{by-name}
use Rattle.uses.proofs.notepad.NotepadFilesystem.lookup.Goals as goal

pub returns-then-is_note : goal.returns-then-is_note
returns-then-is_note g c =
    Answered-frame (Entry c.ttl.result c.ttl.result 0 c.attr-attr.result) tt c.entry.ensures.answer
    (by-name _ _ _ true (sym c.is_note.ensures ∙ c.if-is_note.true)
    (c.attr-attr.result, c.attr-attr.ensures, ap (λ (t : ℕ). Entry t t 0 c.attr-attr.result) c.ttl.ensures))
    c.entry.ensures.reply

pub returns-else-is_note : goal.returns-else-is_note
returns-else-is_note g c =
    Answered-error ENOENT c.error.ensures.answer.0 c.error.ensures.answer.1
    (by-name _ _ _ false (sym c.is_note.ensures ∙ c.if-is_note.false) refl) c.error.ensures.reply
