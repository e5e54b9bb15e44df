use Rattle.workers_bench.proofs.Untold.{takes-front}
use Rattle.workers_bench.proofs.devices.GeneratedSource.receive.Goals as goal

pub returns : goal.returns
returns c = takes-front _ _ c.put.ensures.0 c.put.ensures.1
