use Rattle.fuse_workers.proofs.workers.answer_all.Goals as goal

pub answer_last-requires-clause-first : goal.answer_last-requires-clause-first
answer_last-requires-clause-first g c κs within =
    let took = c.take_messages-stopped.ensures.heard in
    (c.answer_rest.ensures.caller took.0 (c.join_workers.ensures.caller took.0 took.2)).frame_kind

pub returns-clause-answered : goal.returns-clause-answered
returns-clause-answered g c =
    let took = c.take_messages-stopped.ensures.heard in (
      took.0,
      took.1,
      c.answer_last.ensures.caller took.0 _ _ took.1 (c.answer_rest.ensures.caller took.0 (c.join_workers.ensures.caller took.0 took.2)),
    )
