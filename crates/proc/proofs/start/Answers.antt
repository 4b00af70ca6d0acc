-- `proc::start` meets its contract: each need by its law.
use Rattle.std.proofs.lemmas.Result.{err_from_is_err_and}
use Rattle.proc.specs.Outside.{start_outside, start_how}
use Rattle.proc.specs.Plain.{start-plain}
use Rattle.proc.proofs.start.Goals as goal

pub returns-then-how-gt2-clause-done : goal.returns-then-how-gt2-clause-done
returns-then-how-gt2-clause-done c = search start_outside

pub returns-in_err-how-clause-done : goal.returns-in_err-how-clause-done
returns-in_err-how-clause-done c =
    let p = err_from_is_err_and c.from_residual.result c.from_residual.ensures.1 in
    rw (p.1, p.2) (start_how c.requires c.in_err-how.ensures)

pub returns-clause-done : goal.returns-clause-done
returns-clause-done c = start-plain _ c.in_ok-how.ensures c.start.ensures.done
