-- `proc_exit::queue_exit` meets its contract: each need by its law.
use Rattle.proc_exit.specs.Tell.{queue-wake, queued-exit}
use Rattle.proc_exit.proofs.queue_exit.Goals as goal

pub wake_waitr-requires : goal.wake_waitr-requires
wake_waitr-requires c = rw c.add.ensures.same.sizes (queue-wake c.requires c.add.ensures.added)

pub returns-clause-done : goal.returns-clause-done
returns-clause-done c = queued-exit c.requires c.add.ensures.added (rw c.add.ensures.same.sizes at c.wake_waitr.ensures.done)
