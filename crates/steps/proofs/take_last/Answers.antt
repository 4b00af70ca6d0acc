-- `steps::take_last` meets its contract: the last line was taken.
use Rattle.steps.specs.Some.{last_taken}
use Rattle.steps.proofs.take_last.Goals as goal

pub returns-clause-taken : goal.returns-clause-taken
returns-clause-taken g c = last_taken c.finish.ensures.finished
