use Rattle.std.proofs.Common.{◌∙◌, ℕ, List, sym, ap, lit<, Option}
use Rattle.std.specs.Prelude.{option_map}
use Rattle.fuse_reply.specs.Answer.Answer.{Data}
use Rattle.fuse_dispatch.proofs.Answering.{Answered-replies, Answered-error}
use Rattle.fuse_hello.specs.Tree.{tree_bytes}
use Rattle.fuse_hello.proofs.hello.HelloFilesystem.read.Goals as goal

pub returns : goal.returns
returns c =
    Answered-replies (Data c.part.result.now) tt c.data.ensures.answer
    (ap (λ (all : Option (List ℕ)). tree_bytes c.args.offset c.args.size all)
    (sym c.contents.ensures ∙ ap (λ r. option_map (λ all. all.now) r) c.in-Some.is)
    ∙ ap (λ (part : List ℕ). Data part) (sym c.part.ensures))
    c.data.ensures.replies

pub returns-in_default : goal.returns-in_default
returns-in_default c =
    Answered-error 2 (lit< tt) (lit< tt)
    (ap (λ (all : Option (List ℕ)). tree_bytes c.args.offset c.args.size all)
    (sym c.contents.ensures ∙ ap (λ r. option_map (λ all. all.now) r) c.in_default.is))
    c.error.ensures.reply
