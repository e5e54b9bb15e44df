use Rattle.std.proofs.Common.{◌∙◌, ap, sym, refl}
use Rattle.fuse_wire.specs.ErrorNumbers.{ENOENT}
use Rattle.fuse_reply.specs.Answer.Answer.{Write as Written}
use Rattle.fuse_dispatch.proofs.Answering.{Answered-error, Answered-frame}
use Rattle.fuse_wire.specs.ErrorNumbers.{EISDIR, ENOSPC}
use Rattle.uses.specs.Notepad.{wrote}
use Rattle.uses.proofs.Nodes.{by-node}
use Rattle.uses.proofs.notepad.NotepadFilesystem.write.Goals as goal

pub returns-in-Some : goal.returns-in-Some
returns-in-Some g c =
    Answered-frame (Written c.in-Some.n) tt c.written.ensures.answer
    (by-node _ _ _ c.args.ino.0 (sym c.node_of.ensures ∙ c.in-File.is) (c.put.result, c.put.ensures, ap wrote (sym c.in-Some.is)))
    c.written.ensures.reply

pub returns-in-None : goal.returns-in-None
returns-in-None g c =
    Answered-error ENOSPC c.error.ensures.answer.0 c.error.ensures.answer.1
    (by-node _ _ _ c.args.ino.0 (sym c.node_of.ensures ∙ c.in-File.is) (c.put.result, c.put.ensures, ap wrote (sym c.in-None.is)))
    c.error.ensures.reply

pub returns-in-Root : goal.returns-in-Root
returns-in-Root g c =
    Answered-error EISDIR c.error-in-Root.ensures.answer.0 c.error-in-Root.ensures.answer.1
    (by-node _ _ _ c.args.ino.0 (sym c.node_of.ensures ∙ c.in-Root.is) refl) c.error-in-Root.ensures.reply

pub returns-in-Absent : goal.returns-in-Absent
returns-in-Absent g c =
    Answered-error ENOENT c.error-in-Absent.ensures.answer.0 c.error-in-Absent.ensures.answer.1
    (by-node _ _ _ c.args.ino.0 (sym c.node_of.ensures ∙ c.in-Absent.is) refl) c.error-in-Absent.ensures.reply
