-- `proc::cond` meets its contract: each need by its law.
use Rattle.std.proofs.lemmas.Result.{err_from_is_err_and}
use Rattle.proc.specs.Outside.{cond-condition, cond_value}
use Rattle.proc.specs.Plain.{cond-took}
use Rattle.proc.proofs.cond.Goals as goal

pub returns-in_err-c-clause-done : goal.returns-in_err-c-clause-done
returns-in_err-c-clause-done c =
    let p = err_from_is_err_and c.from_residual.result c.from_residual.ensures.1 in
    rw (p.1, p.2) (cond-condition c.requires c.in_err-c.ensures.err)

pub returns-in_err-v-clause-done : goal.returns-in_err-v-clause-done
returns-in_err-v-clause-done c =
    let p = err_from_is_err_and c.from_residual-in_err-v.result c.from_residual-in_err-v.ensures.1 in
    rw (p.1, p.2) (cond_value c.requires c.in_err-v.ensures.err)

pub returns-clause-done : goal.returns-clause-done
returns-clause-done c = cond-took c.in_ok-c.ensures.ok c.in_ok-v.ensures.ok c.cond.ensures.done
