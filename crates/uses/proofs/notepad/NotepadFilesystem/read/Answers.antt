use Rattle.std.proofs.Common.{◌∙◌, sym, refl}
use Rattle.fuse_wire.specs.ErrorNumbers.{ENOENT}
use Rattle.fuse_reply.specs.Answer.Answer.{Data}
use Rattle.fuse_dispatch.proofs.Answering.{Answered-error, Answered-replies}
use Rattle.fuse_wire.specs.ErrorNumbers.{EISDIR}
use Rattle.uses.proofs.Nodes.{by-node}
use Rattle.uses.proofs.notepad.NotepadFilesystem.read.Goals as goal

pub returns-in-File : goal.returns-in-File
returns-in-File g c =
    Answered-replies (Data c.part.result.now) tt c.data.ensures.answer
    (by-node _ _ _ c.args.ino.0 (sym c.node_of.ensures ∙ c.in-File.is) (c.part.result.now, c.part.ensures.within, refl))
    c.data.ensures.replies

pub returns-in-Root : goal.returns-in-Root
returns-in-Root g c =
    Answered-error EISDIR c.error.ensures.answer.0 c.error.ensures.answer.1
    (by-node _ _ _ c.args.ino.0 (sym c.node_of.ensures ∙ c.in-Root.is) refl) c.error.ensures.reply

pub returns-in-Absent : goal.returns-in-Absent
returns-in-Absent g c =
    Answered-error ENOENT c.error-in-Absent.ensures.answer.0 c.error-in-Absent.ensures.answer.1
    (by-node _ _ _ c.args.ino.0 (sym c.node_of.ensures ∙ c.in-Absent.is) refl) c.error-in-Absent.ensures.reply
