-- `proc_exit::exit` meets its contract: each need by its law.
use Rattle.std.proofs.lemmas.Result.{err_from_is_err_and}
use Rattle.proc_exit.specs.Exit.{exit-pexit, exit-refused, exit-rest}
use Rattle.std.proofs.Common.{arith}
use Rattle.proc_exit.proofs.exit.Goals as goal

pub running-requires : goal.running-requires
running-requires c =
    rw (c.view.ensures.bytes, c.view.ensures.sizes)
    (record { sizes = c.requires.well.holds.sizes; long = c.requires.well.holds.state.long })

pub returns-in_err-i-clause-done : goal.returns-in_err-i-clause-done
returns-in_err-i-clause-done c =
    let p = err_from_is_err_and c.from_residual.result c.from_residual.ensures.1 in
    rw (p.1, p.2)
    (exit-refused c.requires (λ k. omega (arith, c.type_inv.status k))
    (rw (c.view.ensures.bytes, c.view.ensures.sizes) at c.in_err-i.ensures.err))

pub pexit-requires : goal.pexit-requires
pexit-requires c =
    exit-pexit c.requires (λ k. omega (arith, c.type_inv.status k))
    (rw (c.view.ensures.bytes, c.view.ensures.sizes) at c.in_ok-i.ensures.ok)

pub returns-clause-done : goal.returns-clause-done
returns-clause-done c = exit-rest c.in_ok-i.ensures.ok.unmarked c.pexit.ensures.done
