-- `proc::tadd` meets its contract: each need by its law.
use Rattle.std.proofs.lemmas.Result.{err_from_is_err_and}
use Rattle.proc.specs.Outside.{tadd-kind, tadd-nanoseconds, tadd-rendez, tadd-timer}
use Rattle.proc.specs.Plain.{tadd-asks, tadd-took}
use Rattle.proc.proofs.tadd.Goals as goal

pub returns-in_err-t-clause-done : goal.returns-in_err-t-clause-done
returns-in_err-t-clause-done c =
    let p = err_from_is_err_and c.from_residual.result c.from_residual.ensures.1 in
    rw (p.1, p.2) (tadd-timer c.requires c.in_err-t.ensures.err)

pub returns-in_err-kind-clause-done : goal.returns-in_err-kind-clause-done
returns-in_err-kind-clause-done c =
    let p = err_from_is_err_and c.from_residual-in_err-kind.result c.from_residual-in_err-kind.ensures.1 in
    rw (p.1, p.2) (tadd-kind c.requires c.in_err-kind.ensures)

pub returns-in_err-d-clause-done : goal.returns-in_err-d-clause-done
returns-in_err-d-clause-done c =
    let p = err_from_is_err_and c.from_residual-in_err-d.result c.from_residual-in_err-d.ensures.1 in
    rw (p.1, p.2) (tadd-nanoseconds c.requires c.in_err-d.ensures.err)

pub returns-in_err-r-clause-done : goal.returns-in_err-r-clause-done
returns-in_err-r-clause-done c =
    let p = err_from_is_err_and c.from_residual-in_err-r.result c.from_residual-in_err-r.ensures.1 in
    rw (p.1, p.2) (tadd-rendez c.requires c.in_err-r.ensures.err)

pub tadd-requires : goal.tadd-requires
tadd-requires c = tadd-asks c.requires c.in_ok-t.ensures.ok c.in_ok-d.ensures.ok c.in_ok-r.ensures.ok

pub returns-clause-done : goal.returns-clause-done
returns-clause-done c = tadd-took _ c.in_ok-t.ensures.ok c.in_ok-kind.ensures c.in_ok-d.ensures.ok c.in_ok-r.ensures.ok c.tadd.ensures.done
