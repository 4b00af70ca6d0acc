-- `proc::tdel` meets its contract: each need by its law.
use Rattle.std.proofs.lemmas.Result.{err_from_is_err_and}
use Rattle.proc.specs.Outside.{tdel-outside}
use Rattle.proc.specs.Plain.{tdel-took}
use Rattle.proc.proofs.tdel.Goals as goal

pub returns-in_err-t-clause-done : goal.returns-in_err-t-clause-done
returns-in_err-t-clause-done c =
    let p = err_from_is_err_and c.from_residual.result c.from_residual.ensures.1 in
    rw (p.1, p.2) (tdel-outside c.requires c.in_err-t.ensures.err)

pub returns-clause-done : goal.returns-clause-done
returns-clause-done c = tdel-took c.in_ok-t.ensures.ok c.tdel.ensures.done
