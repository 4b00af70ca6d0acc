-- `proc_wake::due` meets its contract: the answer is the test's.
use Rattle.proc_wake.specs.Steps.{due-said}
use Rattle.proc_wake.proofs.due.Goals as goal

pub returns : goal.returns
returns c = due-said c.requires c.preempt_due.ensures c.from.ensures
