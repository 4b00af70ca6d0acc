-- `proc::rfork` meets its contract: each need by its law.
use Rattle.std.proofs.lemmas.Result.{err_from_is_err_and}
use Rattle.proc.specs.Outside.{rfork-flags, rfork_how}
use Rattle.proc.specs.Plain.{rfork-plain}
use Rattle.proc.proofs.rfork.Goals as goal

pub returns-in_default-clause-done : goal.returns-in_default-clause-done
returns-in_default-clause-done c = rfork-flags c.requires c.in_default.ensures

pub returns-in_err-how-clause-done : goal.returns-in_err-how-clause-done
returns-in_err-how-clause-done c =
    let p = err_from_is_err_and c.from_residual.result c.from_residual.ensures.1 in
    rw (p.1, p.2) (rfork_how c.requires c.in_err-how.ensures)

pub returns-clause-done : goal.returns-clause-done
returns-clause-done c = rfork-plain _ c.in-Ok.ensures.1 c.in_ok-how.ensures c.rfork.ensures.done
