-- `proc_sched::sleep_again` meets its contract: each need by its law.
use Rattle.proc_sched.specs.Limbo.{slept-again}
use Rattle.proc_sched.proofs.sleep_again.Goals as goal

pub returns-clause-done : goal.returns-clause-done
returns-clause-done c = slept-again c.requires c.sleep_on.ensures.done
