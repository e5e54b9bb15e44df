use Rattle.std.proofs.Common.{◌≡◌, ◌⊎◌, None, subst, sym}
use Rattle.std.specs.HashMap.{get}
use Rattle.std.specs.Map.{lookup, update}
use Rattle.fuse_core.specs.AreMatched.{same}
use Rattle.fuse_core.proofs.Bookkeeping.{put_or_none, same_not}
use Rattle.fuse_core.proofs.book.keep.Goals as goal

pub returns-in-None-clause-left : goal.returns-in-None-clause-left
returns-in-None-clause-left g c = put_or_none (get same c.args.waiting.now) c.args.tag c.args.left c.requires

pub returns-clause-left : goal.returns-clause-left
returns-clause-left g c = λ k.
    let before = get same c.args.waiting.now in
    subst (λ es. (lookup (same k) es ≡ update same before c.args.tag c.args.left k) ⊎ (lookup (same k) es ≡ None)) (sym c.in-Err.ensures.err)
    (put_or_none before c.args.tag c.args.left c.requires k)

pub returns-in-Ok-clause-others : goal.returns-in-Ok-clause-others
returns-in-Ok-clause-others g c = λ k other. c.in-Ok.ensures.updates.2 k (same_not c.args.tag k other)
