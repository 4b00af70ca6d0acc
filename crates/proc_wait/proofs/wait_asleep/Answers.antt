-- `proc_wait::wait_asleep` meets its contract: each need by its law.
use Rattle.proc_wait.specs.Sleep.{alone-wait, went-asleep}
use Rattle.proc_wait.proofs.wait_asleep.Goals as goal

pub wait_on-requires : goal.wait_on-requires
wait_on-requires c = rw c.suspend.ensures.same.sizes (alone-wait c.requires c.suspend.ensures.done)

pub returns-clause-done : goal.returns-clause-done
returns-clause-done c = went-asleep c.requires c.suspend.ensures.done (rw c.suspend.ensures.same.sizes at c.wait_on.ensures.done)
