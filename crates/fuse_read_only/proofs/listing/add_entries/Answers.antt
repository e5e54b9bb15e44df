use Rattle.std.proofs.Common.{◌≡◌, ◌+◌, ◌++◌, ◌∙◌, ◌≤◌, arith, ℕ, Bool, true, false, List, [], ◌∷◌, Ok, ap, sym, subst, length, drop}
use Rattle.std.specs.Prelude.{option_map}
use Rattle.fuse_wire.specs.declared.no_memory.NoMemory.{NoMemory}
use Rattle.fuse_reply.specs.Answer.{IsDirEntry}
use Rattle.fuse_reply.specs.Adding.{Adds, ListingSeen}
use Rattle.fuse_reply.specs.Listing.{Fits, dirent, listing}
use Rattle.fuse_reply.specs.Sizes.{inline_size}
use Rattle.fuse_read_only.specs.Tree.{followed_by, member_of, with_offsets}
use Rattle.fuse_read_only.specs.ReadOnly.{listing_of}
use Rattle.fuse_read_only.proofs.Members.{each-add, joined-end, joined-full, joined-here, joined-next, listed-more, listed-whole, listing-add, of-error}
use Rattle.fuse_read_only.proofs.Members.{with_offsets-last, with_offsets-none}
use Rattle.fuse_read_only.proofs.listing.add_entries.Goals as goal

pub returns-in_default-clause-listed : goal.returns-in_default-clause-listed
returns-in_default-clause-listed g c =
    let before = c.loop-place.invariant in
    let members = (g.T.Files.tree c.args.files.now).entries c.args.ino.0 in
    let size = c.args.reply.now.size in
    let at = c.loop-place.place in
    let whole = listing_of (g.T.Files.tree c.args.files.now) c.args.ino.0 c.args.offset size in
    listed-whole before.taken whole c.args.reply.now c.loop-place.reply before.same before.in_range
    (joined-end size before.taken whole (with_offsets at (drop at members))
    (with_offsets-none members at (sym c.entry.ensures ∙ ap (λ r. option_map member_of r) c.in_default.is)) before.joined)

pub returns-clause-listed : goal.returns-clause-listed
returns-clause-listed g c =
    let before = c.loop-place.invariant in
    let members = (g.T.Files.tree c.args.files.now).entries c.args.ino.0 in
    let size = c.args.reply.now.size in
    let at = c.loop-place.place in
    let whole = listing_of (g.T.Files.tree c.args.files.now) c.args.ino.0 c.args.offset size in
    listed-whole before.taken whole c.args.reply.now c.loop-place.reply before.same before.in_range
    (joined-end size before.taken whole (with_offsets at (drop at members))
    (with_offsets-last (drop at members) at c.loop-place-test.false) before.joined)

pub returns-then-branch-clause-listed : goal.returns-then-branch-clause-listed
returns-then-branch-clause-listed g c =
    let before = c.loop-place.invariant in
    let members = (g.T.Files.tree c.args.files.now).entries c.args.ino.0 in
    let size = c.args.reply.now.size in
    let at = c.loop-place.place in
    let whole = listing_of (g.T.Files.tree c.args.files.now) c.args.ino.0 c.args.offset size in
    let m = member_of c.in-Some.entry in
    let e = followed_by (at + 1) m in
    let became = λ (full : Bool). Adds {E = NoMemory} (Ok full) (dirent e) c.loop-place.reply c.add_entry.new.reply in
    let adds : became true = subst became c.if-branch.true c.in_ok-add_entry.ensures.adds in
    let is = sym c.entry.ensures ∙ ap (λ r. option_map member_of r) c.in-Some.is in
    listed-whole before.taken whole c.args.reply.now c.add_entry.new.reply (adds.1 ∙ before.same) before.in_range
    (joined-full size before.taken whole (with_offsets (at + 1) (drop (at + 1) members)) e
    (subst (λ (l : ListingSeen). Fits l.size (length l.held) (length (dirent e)) → ⊥) before.same adds.0)
    (joined-here members at size before.taken whole m is c.loop-place-test.true before.joined))

pub loop-place-preserved : goal.loop-place-preserved
loop-place-preserved g c =
    let before = c.loop-place.invariant in
    let members = (g.T.Files.tree c.args.files.now).entries c.args.ino.0 in
    let size = c.args.reply.now.size in
    let at = c.loop-place.place in
    let whole = listing_of (g.T.Files.tree c.args.files.now) c.args.ino.0 c.args.offset size in
    let m = member_of c.in-Some.entry in
    let e = followed_by (at + 1) m in
    let became = λ (full : Bool). Adds {E = NoMemory} (Ok full) (dirent e) c.loop-place.reply c.add_entry.new.reply in
    let adds : became false = subst became c.if-branch.false c.in_ok-add_entry.ensures.adds in
    let is = sym c.entry.ensures ∙ ap (λ r. option_map member_of r) c.in-Some.is in
    record {
      taken = before.taken ++ e ∷ [];
      in_range = each-add IsDirEntry before.taken e before.in_range (c.in_ok-add_entry.ensures.in_range (ap Ok c.if-branch.false));
      same = adds.1 ∙ (ap (λ (l : ListingSeen). record l { held = l.held ++ dirent e }) before.same
          ∙ ap (λ (held : List ℕ). record c.args.reply.now { held = held }) (sym (listing-add before.taken e)));
      joined = joined-next size before.taken whole (with_offsets (at + 1) (drop (at + 1) members)) e
          (subst (λ (l : ListingSeen). Fits l.size (length l.held) (length (dirent e))) before.same adds.0)
          (joined-here members at size before.taken whole m is c.loop-place-test.true before.joined);
    }

pub returns-in_err-add_entry-clause-starved : goal.returns-in_err-add_entry-clause-starved
returns-in_err-add_entry-clause-starved g c =
    let before = c.loop-place.invariant in
    let members = (g.T.Files.tree c.args.files.now).entries c.args.ino.0 in
    let size = c.args.reply.now.size in
    let at = c.loop-place.place in
    let whole = listing_of (g.T.Files.tree c.args.files.now) c.args.ino.0 c.args.offset size in
    let m = member_of c.in-Some.entry in
    let e = followed_by (at + 1) m in
    let is = sym c.entry.ensures ∙ ap (λ r. option_map member_of r) c.in-Some.is in
    let held = subst (λ (l : ListingSeen). length l.held + length (dirent e) ≤ inline_size → false ≡ true) before.same c.in_err-add_entry.ensures.inline in
    let is_long : length (listing before.taken) + length (dirent e) ≤ inline_size → ⊥ =
    λ short. let wrong : false ≡ true = held short in let never : ⊥ = cc in never in
    of-error c.from_residual.result
    (listed-more size inline_size before.taken whole (with_offsets (at + 1) (drop (at + 1) members)) e
    (subst (λ (l : ListingSeen). Fits l.size (length l.held) (length (dirent e))) before.same c.in_err-add_entry.ensures.adds.0)
    (omega (arith, is_long))
    (joined-here members at size before.taken whole m is c.loop-place-test.true before.joined))
