use Rattle.std.proofs.Common.{◌∙◌, ◌++◌, [], ◌∷◌, None, append-nil, subst}
use Rattle.std.specs.HashMap.{get}
use Rattle.std.proofs.lemmas.List.Sums.{sum_by_push}
use Rattle.fuse_core.specs.Book.{IsBookOf, tagged}
use Rattle.fuse_core.specs.AreMatched.{Tag, same}
use Rattle.fuse_core.proofs.Bookkeeping.{Counts-after, EachWaiting-after, IsBookOf-after, same_not}
use Rattle.fuse_core.proofs.Matching.{once_if_same}
use Rattle.fuse_core.proofs.book.Book.mark.Goals as goal

pub returns-clause-keeps : goal.returns-clause-keeps
returns-clause-keeps g c = λ marks came sent book.
    let tag : Tag = (c.args.seq, c.args.id.0) in
    let met = c.with_mark-go.ensures in
    let at = c.with_mark-go.result in
    subst (λ late. IsBookOf c.put.new.self (marks ++ tag ∷ []) late (sent ++ tagged tag at.0)) (append-nil came)
    (IsBookOf-after tag 1 None at.0 at.1 marks (marks ++ tag ∷ []) came sent (λ k. sum_by_push (λ t. once_if_same t k) marks tag)
    c.args.self.now c.put.new.self (get same c.remove.new.self) at.2 c.remove.ensures.updates.0
    (rw (← c.remove.ensures.value) met.backed) (rw (← c.remove.ensures.value) met.kept) c.put.ensures.backed c.put.ensures.kept book)

pub returns-clause-own : goal.returns-clause-own
returns-clause-own g c = λ test before.
    let tag : Tag = (c.args.seq, c.args.id.0) in
    let met = c.with_mark-go.ensures in
    let at = c.with_mark-go.result in
    EachWaiting-after test tag 1 None at.0 at.1 c.args.self.now c.put.new.self (get same c.remove.new.self) at.2
    c.remove.ensures.updates.0 (rw (← c.remove.ensures.value) met.kept) (rw (← c.remove.ensures.value) met.refused) c.put.ensures.left tt before

pub returns-clause-counted : goal.returns-clause-counted
returns-clause-counted g c =
    let tag : Tag = (c.args.seq, c.args.id.0) in
    let at = c.with_mark-go.result in
    Counts-after tag at.0 at.1 _ c.args.self.now c.put.new.self (get same c.remove.new.self)
    (rw (← c.remove.ensures.value) c.with_mark-go.ensures.lost) c.put.ensures.left c.put.ensures.counted

pub returns-clause-others : goal.returns-clause-others
returns-clause-others g c = λ k other.
    let tag : Tag = (c.args.seq, c.args.id.0) in c.put.ensures.others k other ∙ c.remove.ensures.updates.2 k (same_not tag k other)
