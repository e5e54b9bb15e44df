use Rattle.std.proofs.Common.{◌≡◌, ◌∙◌, ℕ, Bool, true, false, not, refl, sym, ap, lit<, Option, None}
use Rattle.std.specs.Prelude.{◌==◌, if◌then◌else◌}
use Rattle.fuse_wire.specs.declared.file_attr.FileAttr.{FileAttr}
use Rattle.fuse_reply.specs.Answer.Answer.{Entry}
use Rattle.fuse_reply.specs.Frame.{reply}
use Rattle.fuse_reply.specs.declared.out.Out.TheVariants.{Frame}
use Rattle.fuse_dispatch.proofs.Answering.{Answered-frame, Answered-error}
use Rattle.fuse_wire.specs.Times.{nanos_per_second}
use Rattle.fuse_dispatch.specs.Found.{found_entry}
use Rattle.fuse_hello.specs.Tree.{tree_named}
use Rattle.fuse_hello.proofs.hello.HelloFilesystem.lookup.Goals as goal

is-false : (b : Bool) → true ≡ not b → b ≡ false
is-false true h = absurd (let no : ⊥ = cc in no)
is-false false h = refl

is-true : (b : Bool) → false ≡ not b → b ≡ true
is-true true h = refl
is-true false h = absurd (let no : ⊥ = cc in no)

pub returns-then-ne : goal.returns-then-ne
returns-then-ne c =
    Answered-error 2 (lit< tt) (lit< tt)
    (ap (λ (b : Bool). found_entry nanos_per_second (if b then tree_named c.args.name.now else None)) (is-false (c.args.parent.0 == 1) c.if-ne.ensures))
    c.error.ensures.reply

pub returns : goal.returns
returns c =
    Answered-frame (Entry 1000000000 1000000000 0 c.in-Some.found) tt (lit< tt, lit< tt, lit< tt, c.entry.ensures.answer.3)
    (ap (λ (b : Bool). found_entry nanos_per_second (if b then tree_named c.args.name.now else None)) (is-true (c.args.parent.0 == 1) c.if-ne.ensures)
    ∙ ap (λ (found : Option FileAttr). found_entry nanos_per_second found) (sym c.named.ensures ∙ c.in-Some.is))
    (c.entry.ensures.reply ∙ ap (λ (valid : ℕ). Frame (reply c.args.reply.id (Entry valid valid 0 c.in-Some.found))) c.a_second.ensures)

pub returns-in_default : goal.returns-in_default
returns-in_default c =
    Answered-error 2 (lit< tt) (lit< tt)
    (ap (λ (b : Bool). found_entry nanos_per_second (if b then tree_named c.args.name.now else None)) (is-true (c.args.parent.0 == 1) c.if-ne.ensures)
    ∙ ap (λ (found : Option FileAttr). found_entry nanos_per_second found) (sym c.named.ensures ∙ c.in_default.is))
    c.error-in_default.ensures.reply
