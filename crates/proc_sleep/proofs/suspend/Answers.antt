-- `proc_sleep::suspend` meets its contract: each need by its law.
use Rattle.proc_sleep.specs.Suspend.{suspend-call, suspended}
use Rattle.proc_sleep.proofs.suspend.Goals as goal

pub set_resume-requires : goal.set_resume-requires
set_resume-requires c = rw c.stop.ensures.same.sizes (suspend-call c.requires c.stop.ensures.done)

pub returns-clause-done : goal.returns-clause-done
returns-clause-done c =
    suspended c.requires c.stop.ensures.done (rw c.stop.ensures.same.sizes at c.set_resume.ensures.done)
