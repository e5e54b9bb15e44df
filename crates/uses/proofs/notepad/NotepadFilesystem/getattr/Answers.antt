use Rattle.std.proofs.Common.{◌∙◌, ℕ, ap, sym, refl}
use Rattle.fuse_wire.specs.ErrorNumbers.{ENOENT}
use Rattle.fuse_wire.specs.Times.{nanos_per_second}
use Rattle.fuse_wire.specs.declared.file_attr.FileAttr.{FileAttr}
use Rattle.fuse_reply.specs.Answer.Answer.{Attr}
use Rattle.fuse_dispatch.proofs.Answering.{Answered-error, Answered-frame}
use Rattle.uses.proofs.Nodes.{by-node}
use Rattle.uses.proofs.notepad.NotepadFilesystem.getattr.Goals as goal

pub returns-in-File : goal.returns-in-File
returns-in-File g c =
    Answered-frame (Attr c.ttl.result c.attr-attr.result) tt c.attr.ensures.answer
    (by-node _ _ _ c.args.ino.0 (sym c.node_of.ensures ∙ c.in-File.is)
    (c.attr-attr.result, c.attr-attr.ensures, ap (λ (t : ℕ). Attr t c.attr-attr.result) c.ttl.ensures))
    c.attr.ensures.reply

pub returns-in-Root : goal.returns-in-Root
returns-in-Root g c =
    Answered-frame (Attr c.ttl-in-Root.result c.directory.result) tt c.attr-in-Root.ensures.answer
    (by-node _ _ _ c.args.ino.0 (sym c.node_of.ensures ∙ c.in-Root.is)
    (ap (λ (t : ℕ). Attr t c.directory.result) c.ttl-in-Root.ensures ∙ ap (λ (d : FileAttr). Attr nanos_per_second d) c.directory.ensures))
    c.attr-in-Root.ensures.reply

pub returns-in-Absent : goal.returns-in-Absent
returns-in-Absent g c =
    Answered-error ENOENT c.error.ensures.answer.0 c.error.ensures.answer.1
    (by-node _ _ _ c.args.ino.0 (sym c.node_of.ensures ∙ c.in-Absent.is) refl) c.error.ensures.reply
