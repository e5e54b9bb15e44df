use Rattle.std.proofs.Common.{◌≡◌, ◌≤◌, ◌∙◌, Bool, true, false, not, List, ap, subst, refl, length, drop}
use Rattle.std.specs.Prelude.{◌==◌, if◌then◌else◌}
use Rattle.fuse_wire.specs.ErrorNumbers.{ENOENT}
use Rattle.fuse_reply.specs.Answer.Answer.{Directory, Error}
use Rattle.fuse_reply.specs.Frame.{reply}
use Rattle.fuse_reply.specs.Adding.{ListingSeen}
use Rattle.fuse_reply.specs.Listing.{DirEntry, fitting, listing}
use Rattle.fuse_reply.specs.declared.out.Out.TheVariants.{Frame}
use Rattle.fuse_dispatch.proofs.Answering.{Answered-frame}
use Rattle.fuse_hello.specs.Tree.{members}
use Rattle.fuse_hello.proofs.Members.{in_range-listed}
use Rattle.fuse_hello.proofs.hello.HelloFilesystem.readdir.Goals as goal

is-true : (b : Bool) → false ≡ not b → b ≡ true
is-true true h = refl
is-true false h = absurd (let no : ⊥ = cc in no)

pub returns : goal.returns
returns c =
    let entries : List DirEntry = fitting c.args.reply.size 0 (drop c.args.offset members) in
    let held : c.add_members.new.reply.held ≡ listing entries = ap (λ (l : ListingSeen). l.held) c.add_members.ensures in
    Answered-frame (Directory entries)
    (subst (λ (l : ListingSeen). length l.held ≤ l.size) c.add_members.ensures c.ok.ensures.within)
    (c.ok.ensures.answer entries (in_range-listed c.args.reply.size c.args.offset) held)
    (ap (λ (root : Bool). if root then Directory entries else Error ENOENT) (is-true (c.args.ino.0 == 1) c.if-ne.ensures))
    (c.ok.ensures.reply entries held ∙ ap (λ (l : ListingSeen). Frame (reply l.id (Directory entries))) c.add_members.ensures)
