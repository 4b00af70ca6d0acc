-- `proc_fork::make` meets its contract: each need by its law.
use Rattle.std.proofs.lemmas.Result.{err_from_is_err_and}
use Rattle.proc_fork.specs.Make.{make-done, make-fork, make-full, make-spend, make_unmade}
use Rattle.proc_fork.proofs.make.Goals as goal

pub new_pid-requires : goal.new_pid-requires
new_pid-requires c = rw (c.view.ensures.bytes, c.view.ensures.sizes) c.requires.well

pub returns-in_err-pid-clause-done : goal.returns-in_err-pid-clause-done
returns-in_err-pid-clause-done c =
    let p = err_from_is_err_and c.from_residual.result c.from_residual.ensures.1 in
    rw (p.1, p.2) (make-full c.requires (rw (c.view.ensures.bytes, c.view.ensures.sizes) at c.in_err-pid.ensures.err))

pub spend-requires : goal.spend-requires
spend-requires c = make-spend c.requires (rw (c.view.ensures.bytes, c.view.ensures.sizes) at c.in_ok-pid.ensures.ok)

pub returns-in_err-made-clause-done : goal.returns-in_err-made-clause-done
returns-in_err-made-clause-done c =
    let p = err_from_is_err_and c.from_residual-in_err-made.result c.from_residual-in_err-made.ensures.1 in
    rw (p.1, p.2)
    (make_unmade c.requires (rw (c.view.ensures.bytes, c.view.ensures.sizes) at c.in_ok-pid.ensures.ok) c.spend.ensures.done
    c.in_err-made.ensures.err)

pub fork-requires : goal.fork-requires
fork-requires c =
    rw c.spend.ensures.same.sizes
    (make-fork c.requires (rw (c.view.ensures.bytes, c.view.ensures.sizes) at c.in_ok-pid.ensures.ok) c.spend.ensures.done
    c.in_ok-made.ensures.ok)

pub returns-clause-done : goal.returns-clause-done
returns-clause-done c =
    make-done c.requires (rw (c.view.ensures.bytes, c.view.ensures.sizes) at c.in_ok-pid.ensures.ok) c.spend.ensures.done
    c.in_ok-made.ensures.ok c.contains.ensures (rw c.spend.ensures.same.sizes at c.fork.ensures.done)
