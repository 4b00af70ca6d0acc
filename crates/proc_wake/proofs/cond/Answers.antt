-- `proc_wake::cond` meets its contract: each need by its law.
use Rattle.proc_wake.specs.Steps.{cond-done}
use Rattle.proc_wake.proofs.cond.Goals as goal

pub returns-clause-done : goal.returns-clause-done
returns-clause-done c = cond-done c.requires c.ranges.c.fits c.set.ensures.became
