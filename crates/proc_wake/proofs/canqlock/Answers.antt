-- `proc_wake::canqlock` meets its contract: the answer is whether it took the lock.
use Rattle.proc_wake.specs.Steps.{asked}
use Rattle.proc_wake.proofs.canqlock.Goals as goal

pub returns-clause-done : goal.returns-clause-done
returns-clause-done c = asked c.requires c.canqlock.ensures.done c.from.ensures
