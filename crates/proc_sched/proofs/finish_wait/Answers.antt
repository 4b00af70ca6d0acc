-- `proc_sched::finish_wait` meets its contract: each need by its law.
use Rattle.proc_sched.specs.Waits.{finish-low, finish-limbo, finished}
use Rattle.std.proofs.Common.{rules}
use Rattle.proc_sched.proofs.finish_wait.Goals as goal

pub get-pid-requires : goal.get-pid-requires
get-pid-requires c = search (rules, finish-low c.requires)

pub dispatch-requires : goal.dispatch-requires
dispatch-requires c = rw c.take_child-child.ensures.same.sizes (finish-limbo c.requires c.take_child-child.ensures.done)

pub returns-clause-done : goal.returns-clause-done
returns-clause-done c = finished c.requires c.get-pid.ensures.value c.take_child-child.ensures.done (rw c.take_child-child.ensures.same.sizes at c.dispatch.ensures.done)
