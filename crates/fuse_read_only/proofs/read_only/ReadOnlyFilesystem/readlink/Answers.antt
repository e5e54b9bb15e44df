use Rattle.std.proofs.Common.{◌∙◌, Option, ap, sym, subst}
use Rattle.fuse_wire.specs.ErrorNumbers.{ENOENT}
use Rattle.fuse_wire.specs.declared.file_attr.FileAttr.{FileAttr}
use Rattle.fuse_request.specs.Call.Call.{ReadLink}
use Rattle.fuse_reply.specs.Answer.Answer.{Error}
use Rattle.fuse_dispatch.proofs.Answering.{Answered-error}
use Rattle.fuse_read_only.specs.ReadOnly.{MayHave, leads_to}
use Rattle.fuse_read_only.proofs.read_only.ReadOnlyFilesystem.readlink.Goals as goal

pub returns-in-None : goal.returns-in-None
returns-in-None g c =
    Answered-error ENOENT c.error-in-None.ensures.answer.0 c.error-in-None.ensures.answer.1
    (subst (λ files. MayHave (g.T.Files.tree files) (ReadLink c.args.ino.0) (Error ENOENT)) c.self.view_is
    (ap (λ (found : Option FileAttr). leads_to found ((g.T.Files.tree c.self.inside.files).contents c.args.ino.0))
    (sym c.attr.ensures ∙ c.in-None.is)))
    c.error-in-None.ensures.reply
