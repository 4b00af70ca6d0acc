-- `proc_sleep::wait_for` meets its contract: each need by its law.
use Rattle.proc_sleep.specs.Qlock.{queue-enqueue, queued}
use Rattle.proc_sleep.proofs.wait_for.Goals as goal

pub enqueue-requires : goal.enqueue-requires
enqueue-requires c = rw c.suspend.ensures.same.sizes (queue-enqueue c.requires c.suspend.ensures.done)

pub returns-clause-done : goal.returns-clause-done
returns-clause-done c = queued c.requires c.suspend.ensures.done (rw c.suspend.ensures.same.sizes at c.enqueue.ensures.done)
