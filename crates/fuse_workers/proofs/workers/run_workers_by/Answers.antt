use Rattle.fuse_loop.proofs.Quieting.{PassesOnAll-quiet}
use Rattle.fuse_workers.proofs.workers.run_workers_by.Goals as goal

pub returns-clause-notices : goal.returns-clause-notices
returns-clause-notices g c quiet =
    let all = PassesOnAll-quiet c.run_on.ensures.later.moved quiet in
    record { appended = all.appended; notes = all.notes; written = all.written; line = all.line }
