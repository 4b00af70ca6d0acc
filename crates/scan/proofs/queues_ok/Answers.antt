-- `scan::queues_ok` meets its contract: by each test in turn.
use Rattle.std.proofs.Common.{◌∙◌}
use Rattle.scan.specs.All.{queues-decide}
use Rattle.scan.proofs.queues_ok.Goals as goal

pub returns-then-locks_ok : goal.returns-then-locks_ok
returns-then-locks_ok c =
    queues-decide c.count_states-counts.ensures (c.in-Some.ensures.0, c.in-Some.ensures.1 ∙ c.if-n-counts.true)
    (c.locks_ok.ensures.0 c.if-locks_ok.true) c.asleep_ok.ensures
