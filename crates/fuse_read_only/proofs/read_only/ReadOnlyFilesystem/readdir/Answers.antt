use Rattle.std.proofs.Common.{◌≡◌, ◌≤◌, ◌∙◌, List, Option, inl, inr, ap, sym, subst, refl, length}
use Rattle.fuse_wire.specs.ErrorNumbers.{ENOENT, ENOMEM}
use Rattle.fuse_wire.specs.declared.file_attr.FileAttr.{FileAttr}
use Rattle.fuse_request.specs.Call.Call.{ReadDir}
use Rattle.fuse_reply.specs.Answer.Answer.{Directory, Error}
use Rattle.fuse_reply.specs.Frame.{reply}
use Rattle.fuse_reply.specs.Adding.{ListingSeen}
use Rattle.fuse_reply.specs.Listing.{DirEntry, listing}
use Rattle.fuse_reply.specs.declared.out.Out.TheVariants.{Frame}
use Rattle.fuse_dispatch.proofs.Answering.{Answered-error, Answered-frame}
use Rattle.fuse_read_only.specs.ReadOnly.{IsLongListing, MayHave, listed, listing_of}
use Rattle.fuse_read_only.proofs.read_only.ReadOnlyFilesystem.readdir.Goals as goal

pub returns-in_default : goal.returns-in_default
returns-in_default g c =
    let entries : List DirEntry = listing_of (g.T.Files.tree c.self.inside.files) c.args.ino.0 c.args.offset c.args.reply.size in
    Answered-error ENOENT c.error.ensures.answer.0 c.error.ensures.answer.1
    (subst (λ files. MayHave (g.T.Files.tree files) (ReadDir c.args.ino.0 c.args._fh.0 c.args.offset c.args.reply.size) (Error ENOENT)) c.self.view_is
    (inl (ap (λ (found : Option FileAttr). listed entries found) (sym c.attr.ensures ∙ c.in_default.is))))
    c.error.ensures.reply

pub returns-in-Ok : goal.returns-in-Ok
returns-in-Ok g c =
    let entries : List DirEntry = listing_of (g.T.Files.tree c.self.inside.files) c.args.ino.0 c.args.offset c.args.reply.size in
    let became = c.in-Ok.ensures.listed.0 in
    let held : c.add_entries.new.reply.held ≡ listing entries = ap (λ (l : ListingSeen). l.held) became in
    Answered-frame (Directory entries)
    (subst (λ (l : ListingSeen). length l.held ≤ l.size) became c.ok.ensures.within)
    (c.ok.ensures.answer entries c.in-Ok.ensures.listed.1 held)
    (subst (λ files. MayHave (g.T.Files.tree files) (ReadDir c.args.ino.0 c.args._fh.0 c.args.offset c.args.reply.size) (Directory entries)) c.self.view_is
    (inl (ap (λ (found : Option FileAttr). listed entries found) (sym c.attr.ensures ∙ c.in-Some.is))))
    (c.ok.ensures.reply entries held ∙ ap (λ (l : ListingSeen). Frame (reply l.id (Directory entries))) became)

pub returns-in-Err : goal.returns-in-Err
returns-in-Err g c =
    let entries : List DirEntry = listing_of (g.T.Files.tree c.self.inside.files) c.args.ino.0 c.args.offset c.args.reply.size in
    let is_long = subst (λ (found : Option FileAttr). IsLongListing (listed entries found)) (sym c.in-Some.is ∙ c.attr.ensures) c.in-Err.ensures.starved in
    Answered-error ENOMEM c.error-in-Err.ensures.answer.0 c.error-in-Err.ensures.answer.1
    (subst (λ files. MayHave (g.T.Files.tree files) (ReadDir c.args.ino.0 c.args._fh.0 c.args.offset c.args.reply.size) (Error ENOMEM)) c.self.view_is
    (inr (is_long, refl)))
    (subst (λ id. c.error-in-Err.result ≡ Frame (reply id (Error ENOMEM))) (ap (λ (l : ListingSeen). l.id) c.add_entries.ensures.same)
    c.error-in-Err.ensures.reply)
