-- `proc_fork::rfork` meets its contract: each need by its law.
use Rattle.std.proofs.lemmas.Result.{err_from_is_err_and}
use Rattle.proc_fork.specs.Rfork.{rfork-bad, rfork-make, rfork-marked, rfork-nobody, rfork-rest, rfork-same}
use Rattle.proc_fork.proofs.rfork.Goals as goal

pub returns-then-in_interrupt-clause-done : goal.returns-then-in_interrupt-clause-done
returns-then-in_interrupt-clause-done c = search rfork-marked

pub returns-then-are_bad-clause-done : goal.returns-then-are_bad-clause-done
returns-then-are_bad-clause-done c = search rfork-bad

pub up-requires : goal.up-requires
up-requires c = rw (c.view.ensures.bytes, c.view.ensures.sizes) (record { sizes = c.requires.holds.sizes; long = c.requires.holds.state.long })

pub returns-in_err-i-clause-done : goal.returns-in_err-i-clause-done
returns-in_err-i-clause-done c =
    let p = err_from_is_err_and c.from_residual.result c.from_residual.ensures.1 in
    let e = rw (c.view.ensures.bytes, c.view.ensures.sizes) at c.in_err-i.ensures.err in
    rw (p.1, p.2) (search (rfork-nobody, e))

pub make-requires : goal.make-requires
make-requires c =
    let u = rw (c.view.ensures.bytes, c.view.ensures.sizes) at c.in_ok-i.ensures.ok in
    search (rfork-make, u)

pub returns-then-contains-clause-done : goal.returns-then-contains-clause-done
returns-then-contains-clause-done c = search rfork-rest

pub returns-clause-done : goal.returns-clause-done
returns-clause-done c =
    let u = rw (c.view.ensures.bytes, c.view.ensures.sizes) at c.in_ok-i.ensures.ok in
    search (rfork-same, u)
