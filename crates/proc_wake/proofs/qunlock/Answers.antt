-- `proc_wake::qunlock` meets its contract: each need by its law.
use Rattle.proc_wake.specs.Steps.{qunlock-asks, qunlock-no, qunlock-done}
use Rattle.proc_wake.proofs.qunlock.Goals as goal

pub give_up-requires : goal.give_up-requires
give_up-requires c = qunlock-asks c.requires

pub returns-in-None-clause-done : goal.returns-in-None-clause-done
returns-in-None-clause-done c = qunlock-no c.requires c.in-None.ensures.done

pub returns-in-Some-clause-done : goal.returns-in-Some-clause-done
returns-in-Some-clause-done c = qunlock-done c.requires c.in-Some.ensures.done
