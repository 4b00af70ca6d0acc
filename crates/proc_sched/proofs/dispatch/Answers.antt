-- `proc_sched::dispatch` meets its contract: each need by its law.
use Rattle.proc_sched.specs.Limbo.{dispatched, limbo-run}
use Rattle.proc_sched.proofs.dispatch.Goals as goal

pub set_up-requires : goal.set_up-requires
set_up-requires c = rw c.set_resume.ensures.same.sizes (limbo-run c.requires c.set_resume.ensures.done)

pub returns-clause-done : goal.returns-clause-done
returns-clause-done c =
    dispatched c.requires c.set_resume.ensures.done (rw c.set_resume.ensures.same.sizes at c.set_up.ensures.done)
