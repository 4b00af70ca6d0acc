-- `proc_sleep::fall_asleep` meets its contract: each need by its law.
use Rattle.proc_sleep.specs.Sleep.{fell_asleep, off-sleep}
use Rattle.proc_sleep.proofs.fall_asleep.Goals as goal

pub sleep_on-requires : goal.sleep_on-requires
sleep_on-requires c = rw c.suspend.ensures.same.sizes (off-sleep c.requires c.suspend.ensures.done)

pub returns-clause-done : goal.returns-clause-done
returns-clause-done c = fell_asleep c.requires c.suspend.ensures.done (rw c.suspend.ensures.same.sizes at c.sleep_on.ensures.done)
