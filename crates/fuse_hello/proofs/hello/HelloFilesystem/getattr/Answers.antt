use Rattle.std.proofs.Common.{◌∙◌, ℕ, sym, ap, lit<, Option}
use Rattle.fuse_wire.specs.declared.file_attr.FileAttr.{FileAttr}
use Rattle.fuse_reply.specs.Answer.Answer.{Attr}
use Rattle.fuse_reply.specs.Frame.{reply}
use Rattle.fuse_reply.specs.declared.out.Out.TheVariants.{Frame}
use Rattle.fuse_dispatch.proofs.Answering.{Answered-frame, Answered-error}
use Rattle.fuse_wire.specs.Times.{nanos_per_second}
use Rattle.fuse_dispatch.specs.Found.{found_attributes}
use Rattle.fuse_hello.proofs.hello.HelloFilesystem.getattr.Goals as goal

pub returns : goal.returns
returns c =
    Answered-frame (Attr 1000000000 c.in-Some.found) tt (lit< tt, c.attr.ensures.answer.1)
    (ap (λ (found : Option FileAttr). found_attributes nanos_per_second found) (sym c.node_attr.ensures ∙ c.in-Some.is))
    (c.attr.ensures.reply ∙ ap (λ (valid : ℕ). Frame (reply c.args.reply.id (Attr valid c.in-Some.found))) c.a_second.ensures)

pub returns-in_default : goal.returns-in_default
returns-in_default c =
    Answered-error 2 (lit< tt) (lit< tt)
    (ap (λ (found : Option FileAttr). found_attributes nanos_per_second found) (sym c.node_attr.ensures ∙ c.in_default.is))
    c.error.ensures.reply
