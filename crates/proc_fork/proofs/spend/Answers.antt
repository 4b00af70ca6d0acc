-- `proc_fork::spend` meets its contract: each need by its law.
use Rattle.proc_fork.specs.Make.{spend-some}
use Rattle.proc_fork.proofs.spend.Goals as goal

pub returns-in-NoCopy-clause-done : goal.returns-in-NoCopy-clause-done
returns-in-NoCopy-clause-done c = search spend-some
