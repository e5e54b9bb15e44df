use Rattle.std.proofs.Common.{◌∙◌, sym, refl}
use Rattle.fuse_wire.specs.ErrorNumbers.{ENOENT}
use Rattle.fuse_reply.specs.Answer.Answer.{Open as Opened}
use Rattle.fuse_dispatch.proofs.Answering.{Answered-error, Answered-frame}
use Rattle.fuse_wire.specs.ErrorNumbers.{EISDIR}
use Rattle.uses.proofs.Nodes.{by-node}
use Rattle.uses.proofs.notepad.NotepadFilesystem.open.Goals as goal

pub returns-in-File : goal.returns-in-File
returns-in-File g c =
    Answered-frame (Opened 0 0) tt c.open.ensures.answer
    (by-node _ _ _ c.args.ino.0 (sym c.node_of.ensures ∙ c.in-File.is) refl)
    c.open.ensures.reply

pub returns-in-Root : goal.returns-in-Root
returns-in-Root g c =
    Answered-error EISDIR c.error.ensures.answer.0 c.error.ensures.answer.1
    (by-node _ _ _ c.args.ino.0 (sym c.node_of.ensures ∙ c.in-Root.is) refl) c.error.ensures.reply

pub returns-in-Absent : goal.returns-in-Absent
returns-in-Absent g c =
    Answered-error ENOENT c.error-in-Absent.ensures.answer.0 c.error-in-Absent.ensures.answer.1
    (by-node _ _ _ c.args.ino.0 (sym c.node_of.ensures ∙ c.in-Absent.is) refl) c.error-in-Absent.ensures.reply
