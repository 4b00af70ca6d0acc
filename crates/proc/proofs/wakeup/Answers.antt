-- `proc::wakeup` meets its contract: each need by its law.
use Rattle.std.proofs.lemmas.Result.{err_from_is_err_and}
use Rattle.proc.specs.Outside.{wakeup-outside}
use Rattle.proc.specs.Plain.{wakeup-took}
use Rattle.proc.proofs.wakeup.Goals as goal

pub returns-in_err-r-clause-done : goal.returns-in_err-r-clause-done
returns-in_err-r-clause-done c =
    let p = err_from_is_err_and c.from_residual.result c.from_residual.ensures.1 in
    rw (p.1, p.2) (wakeup-outside c.requires c.in_err-r.ensures.err)

pub returns-clause-done : goal.returns-clause-done
returns-clause-done c = wakeup-took c.in_ok-r.ensures.ok c.wakeup.ensures.done
