-- `proc_wake::wakeup` meets its contract: the answer is whom it woke.
use Rattle.proc_wake.specs.Steps.{woken}
use Rattle.proc_wake.proofs.wakeup.Goals as goal

pub returns-clause-done : goal.returns-clause-done
returns-clause-done c = woken c.wakeup.result c.requires c.wakeup.ensures.done c.is_some.ensures c.from.ensures
