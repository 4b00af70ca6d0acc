-- `proc_timer::return_at` meets its contract: each need by its law.
use Rattle.proc_timer.specs.Own.{own-fits, return_asks, returned}
use Rattle.proc_timer.proofs.return_at.Goals as goal

pub overflow_add-own : goal.overflow_add-own
overflow_add-own c = own-fits c.requires

pub del-requires : goal.del-requires
del-requires c = rw c.set_now.ensures.same.sizes (return_asks c.requires c.set_now.ensures.became)

pub returns-clause-done : goal.returns-clause-done
returns-clause-done c =
    returned c.requires c.set_now.ensures.became (rw c.set_now.ensures.same.sizes at c.del.ensures.deleted)
