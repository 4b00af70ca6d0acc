-- `proc_sched::return_tsleep` meets its contract: each need by its law.
use Rattle.proc_sched.specs.Check.{out_small, out_del, out_limbo, out_runs}
use Rattle.std.proofs.Common.{arith}
use Rattle.proc_sched.proofs.return_tsleep.Goals as goal

pub overflow_add-own : goal.overflow_add-own
overflow_add-own c = omega (arith, out_small)

pub del-requires : goal.del-requires
del-requires c = out_del c.requires

pub run_on-requires : goal.run_on-requires
run_on-requires c = rw c.del.ensures.same.sizes (out_limbo c.requires c.del.ensures.deleted)

pub returns-clause-done : goal.returns-clause-done
returns-clause-done c = out_runs c.requires c.del.ensures.deleted (rw c.del.ensures.same.sizes at c.run_on.ensures.done)
