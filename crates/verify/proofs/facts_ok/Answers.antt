-- `verify::facts_ok` meets its contract: by each test in turn.
use Rattle.rules.specs.Tests.{as_true}
use Rattle.verify.specs.Ways.{facts-all, aged}
use Rattle.verify.proofs.facts_ok.Goals as goal

pub kin_ok-requires : goal.kin_ok-requires
kin_ok-requires c = aged (c.queues_ok.ensures.0 c.if-queues_ok.true)

pub returns-then-idle_ok : goal.returns-then-idle_ok
returns-then-idle_ok c =
    as_true c.index_ok.ensures
    (facts-all (c.processes_ok.ensures.0 c.if-processes_ok.true) (c.queues_ok.ensures.0 c.if-queues_ok.true) (c.kin_ok.ensures.0 c.if-kin_ok.true) (c.idle_ok.ensures.0 c.if-idle_ok.true))
    (λ f. f.index)
