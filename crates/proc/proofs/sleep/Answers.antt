-- `proc::sleep` meets its contract: each need by its law.
use Rattle.std.proofs.lemmas.Result.{err_from_is_err_and}
use Rattle.proc.specs.Outside.{sleep-condition, sleep-rendez}
use Rattle.proc.specs.Plain.{sleep-plain}
use Rattle.proc.proofs.sleep.Goals as goal

pub returns-in_err-r-clause-done : goal.returns-in_err-r-clause-done
returns-in_err-r-clause-done c =
    let p = err_from_is_err_and c.from_residual.result c.from_residual.ensures.1 in
    rw (p.1, p.2) (sleep-rendez c.requires c.in_err-r.ensures.err)

pub returns-in_err-c-clause-done : goal.returns-in_err-c-clause-done
returns-in_err-c-clause-done c =
    let p = err_from_is_err_and c.from_residual-in_err-c.result c.from_residual-in_err-c.ensures.1 in
    rw (p.1, p.2) (sleep-condition c.requires c.in_err-c.ensures.err)

pub returns-clause-done : goal.returns-clause-done
returns-clause-done c = sleep-plain c.in_ok-r.ensures.ok c.in_ok-c.ensures.ok c.sleep.ensures.done
