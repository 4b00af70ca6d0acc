-- `proc_sched::taken` meets its contract: each case by its law.
use Rattle.proc_sched.specs.Taken.{taken-no, taken_yes}
use Rattle.proc_sched.proofs.taken.Goals as goal

pub returns-then-not-holds : goal.returns-then-not-holds
returns-then-not-holds c = taken-no _ c.requires c.holds.ensures c.if-not-holds.true c.get.ensures.value c.is_some.ensures

pub returns-else-not-holds : goal.returns-else-not-holds
returns-else-not-holds c = rw c.if-not-holds.false (taken_yes c.requires c.holds.ensures c.if-not-holds.false)
