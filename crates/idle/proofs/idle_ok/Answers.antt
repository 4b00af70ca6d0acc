-- `idle::idle_ok` meets its contract: by each test in turn.
use Rattle.rules.specs.Tests.{fails}
use Rattle.idle.specs.Idle.{idle-all}
use Rattle.idle.proofs.idle_ok.Goals as goal

pub returns-then-cells_ok : goal.returns-then-cells_ok
returns-then-cells_ok c =
    (λ t. idle-all (c.records_ok.ensures.0 c.if-records_ok.true) (c.cells_ok.ensures.0 c.if-cells_ok.true) (c.timers_ok.ensures.0 t), λ f. c.timers_ok.ensures.1 f.timers)

pub returns-else-records_ok : goal.returns-else-records_ok
returns-else-records_ok c = fails c.records_ok.ensures c.if-records_ok.false (λ f. f.records)
