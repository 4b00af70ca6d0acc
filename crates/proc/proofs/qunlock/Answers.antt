-- `proc::qunlock` meets its contract: each need by its law.
use Rattle.std.proofs.lemmas.Result.{err_from_is_err_and}
use Rattle.proc.specs.Outside.{qunlock-outside}
use Rattle.proc.specs.Plain.{qunlock-took}
use Rattle.proc.proofs.qunlock.Goals as goal

pub returns-in_err-q-clause-done : goal.returns-in_err-q-clause-done
returns-in_err-q-clause-done c =
    let p = err_from_is_err_and c.from_residual.result c.from_residual.ensures.1 in
    rw (p.1, p.2) (qunlock-outside c.requires c.in_err-q.ensures.err)

pub returns-clause-done : goal.returns-clause-done
returns-clause-done c = qunlock-took c.in_ok-q.ensures.ok c.qunlock.ensures.done
