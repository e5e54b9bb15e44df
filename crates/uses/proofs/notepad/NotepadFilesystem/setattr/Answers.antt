use Rattle.std.proofs.Common.{◌∙◌, ℕ, ap, sym, refl}
use Rattle.fuse_wire.specs.ErrorNumbers.{ENOENT, EPERM}
use Rattle.fuse_reply.specs.Answer.Answer.{Attr}
use Rattle.fuse_dispatch.proofs.Answering.{Answered-error, Answered-frame}
use Rattle.fuse_wire.specs.ErrorNumbers.{ENOSPC}
use Rattle.uses.specs.Notepad.{outcome}
use Rattle.uses.proofs.Nodes.{by-node}
use Rattle.uses.proofs.notepad.NotepadFilesystem.setattr.Goals as goal

pub returns-in-Some : goal.returns-in-Some
returns-in-Some g c =
    Answered-frame (Attr c.ttl.result c.in-Some.attr) tt c.attr.ensures.answer
    (by-node _ _ _ c.args.ino.0 (sym c.node_of.ensures ∙ c.in-File.is)
    (c.set.result, c.set.ensures, ap (λ (t : ℕ). Attr t c.in-Some.attr) c.ttl.ensures ∙ ap outcome (sym c.in-Some.is)))
    c.attr.ensures.reply

pub returns-in-None : goal.returns-in-None
returns-in-None g c =
    Answered-error ENOSPC c.error.ensures.answer.0 c.error.ensures.answer.1
    (by-node _ _ _ c.args.ino.0 (sym c.node_of.ensures ∙ c.in-File.is) (c.set.result, c.set.ensures, ap outcome (sym c.in-None.is)))
    c.error.ensures.reply

pub returns-in-Root : goal.returns-in-Root
returns-in-Root g c =
    Answered-error EPERM c.error-in-Root.ensures.answer.0 c.error-in-Root.ensures.answer.1
    (by-node _ _ _ c.args.ino.0 (sym c.node_of.ensures ∙ c.in-Root.is) refl) c.error-in-Root.ensures.reply

pub returns-in-Absent : goal.returns-in-Absent
returns-in-Absent g c =
    Answered-error ENOENT c.error-in-Absent.ensures.answer.0 c.error-in-Absent.ensures.answer.1
    (by-node _ _ _ c.args.ino.0 (sym c.node_of.ensures ∙ c.in-Absent.is) refl) c.error-in-Absent.ensures.reply
