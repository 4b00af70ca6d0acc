-- `walks::queues_ok` meets its contract, by its three parts.
use Rattle.walks.specs.Queues.{queues-all, ages-of}
use Rattle.walks.proofs.queues_ok.Goals as goal

pub returns-then-exit_facts : goal.returns-then-exit_facts
returns-then-exit_facts c = (
  λ t. queues-all (c.timer_facts.ensures.0 c.if-timer_facts.true) (c.exit_facts.ensures.0 c.if-exit_facts.true) (c.age_facts.ensures.0 t),
  λ f. c.age_facts.ensures.1 (ages-of f),
)
