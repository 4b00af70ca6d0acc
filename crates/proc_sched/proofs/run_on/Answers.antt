-- `proc_sched::run_on` meets its contract: each need by its law.
use Rattle.proc_sched.specs.Limbo.{limbo-low, runs_on}
use Rattle.std.proofs.Common.{rules}
use Rattle.proc_sched.proofs.run_on.Goals as goal

pub get-pid-requires : goal.get-pid-requires
get-pid-requires c = search (rules, limbo-low c.requires)

pub returns-clause-done : goal.returns-clause-done
returns-clause-done c = runs_on c.requires c.get-pid.ensures.value c.dispatch.ensures.done
