-- `scan::processes_ok` meets its contract: by each test in turn.
use Rattle.scan.specs.All.{processes-decide}
use Rattle.scan.proofs.processes_ok.Goals as goal

pub returns-then-up_ok : goal.returns-then-up_ok
returns-then-up_ok c =
    processes-decide (c.header_ok.ensures.0 c.if-header_ok.true) (c.records_ok.ensures.0 c.if-records_ok.true)
    (c.rendez_ok.ensures.0 c.if-rendez_ok.true) (c.up_ok.ensures.0 c.if-up_ok.true) c.queues_ok.ensures
