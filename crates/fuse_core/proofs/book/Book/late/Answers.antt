use Rattle.std.proofs.Common.{◌∙◌, Some}
use Rattle.std.specs.HashMap.{get}
use Rattle.fuse_core.specs.AreMatched.{Tag, same}
use Rattle.fuse_core.proofs.Bookkeeping.{Counts-after, EachWaiting-after, IsBookOf-after, none_more, same_not}
use Rattle.fuse_core.proofs.book.Book.late.Goals as goal

pub returns-clause-keeps : goal.returns-clause-keeps
returns-clause-keeps g c = λ marks came sent book.
    let tag : Tag = (c.args.seq, c.args.id.0) in
    let met = c.with_frame-go.ensures in
    let at = c.with_frame-go.result in
    IsBookOf-after tag 0 (Some c.args.frame) at.0 at.1 marks marks came sent (λ k. none_more k tag marks)
    c.args.self.now c.put.new.self (get same c.remove.new.self) at.2 c.remove.ensures.updates.0
    (rw (← c.remove.ensures.value) met.backed) (rw (← c.remove.ensures.value) met.kept) c.put.ensures.backed c.put.ensures.kept book

pub returns-clause-own : goal.returns-clause-own
returns-clause-own g c = λ test own before.
    let tag : Tag = (c.args.seq, c.args.id.0) in
    let met = c.with_frame-go.ensures in
    let at = c.with_frame-go.result in
    EachWaiting-after test tag 0 (Some c.args.frame) at.0 at.1 c.args.self.now c.put.new.self (get same c.remove.new.self) at.2
    c.remove.ensures.updates.0 (rw (← c.remove.ensures.value) met.kept) (rw (← c.remove.ensures.value) met.refused) c.put.ensures.left own before

pub returns-clause-counted : goal.returns-clause-counted
returns-clause-counted g c =
    let tag : Tag = (c.args.seq, c.args.id.0) in
    let at = c.with_frame-go.result in
    Counts-after tag at.0 at.1 _ c.args.self.now c.put.new.self (get same c.remove.new.self)
    (rw (← c.remove.ensures.value) c.with_frame-go.ensures.lost) c.put.ensures.left c.put.ensures.counted

pub returns-clause-others : goal.returns-clause-others
returns-clause-others g c = λ k other.
    let tag : Tag = (c.args.seq, c.args.id.0) in c.put.ensures.others k other ∙ c.remove.ensures.updates.2 k (same_not tag k other)
