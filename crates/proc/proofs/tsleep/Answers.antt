-- `proc::tsleep` meets its contract: each need by its law.
use Rattle.std.proofs.lemmas.Result.{err_from_is_err_and}
use Rattle.proc.specs.Outside.{tsleep-condition, tsleep-nanoseconds, tsleep-rendez}
use Rattle.proc.specs.Plain.{tsleep-plain}
use Rattle.proc.proofs.tsleep.Goals as goal

pub returns-in_err-r-clause-done : goal.returns-in_err-r-clause-done
returns-in_err-r-clause-done c =
    let p = err_from_is_err_and c.from_residual.result c.from_residual.ensures.1 in
    rw (p.1, p.2) (tsleep-rendez c.requires c.in_err-r.ensures.err)

pub returns-in_err-c-clause-done : goal.returns-in_err-c-clause-done
returns-in_err-c-clause-done c =
    let p = err_from_is_err_and c.from_residual-in_err-c.result c.from_residual-in_err-c.ensures.1 in
    rw (p.1, p.2) (tsleep-condition c.requires c.in_err-c.ensures.err)

pub returns-in_err-d-clause-done : goal.returns-in_err-d-clause-done
returns-in_err-d-clause-done c =
    let p = err_from_is_err_and c.from_residual-in_err-d.result c.from_residual-in_err-d.ensures.1 in
    rw (p.1, p.2) (tsleep-nanoseconds c.requires c.in_err-d.ensures.err)

pub returns-clause-done : goal.returns-clause-done
returns-clause-done c = tsleep-plain c.in_ok-r.ensures.ok c.in_ok-c.ensures.ok c.in_ok-d.ensures.ok c.tsleep.ensures.done
