-- The place that the search gives.
use Rattle.std.proofs.Common.{rules, tests}
use Rattle.std.proofs.lemmas.Iterator.Consumers.{YieldsList-from_deque}
use Rattle.std.proofs.lemmas.Iterator.Search.{position_from_yields_List}
use Rattle.locks.proofs.one_lock.place_of.Goals as goal

pub returns-clause-place : goal.returns-clause-place
returns-clause-place c =
    position_from_yields_List _ _ _ _ c.position.ensures.ran (YieldsList-from_deque c.args.waiting.now.items c.iter.ensures.rest)
    (λ x b q k. search (rules, tests))
