-- `proc_start::start` meets its contract: each need by its law.
use Rattle.std.proofs.lemmas.Result.{err_from_is_err_and}
use Rattle.proc_start.specs.Start.{start-begin, start-done, start-full, start-marked, start_unmade, start-well}
use Rattle.proc_start.proofs.start.Goals as goal

pub returns-then-in_interrupt-clause-done : goal.returns-then-in_interrupt-clause-done
returns-then-in_interrupt-clause-done c = search start-marked

pub new_pid-requires : goal.new_pid-requires
new_pid-requires c = rw (c.view.ensures.bytes, c.view.ensures.sizes) (start-well c.requires)

pub returns-in_err-pid-clause-done : goal.returns-in_err-pid-clause-done
returns-in_err-pid-clause-done c =
    let p = err_from_is_err_and c.from_residual.result c.from_residual.ensures.1 in
    rw (p.1, p.2)
    (start-full c.requires c.if-in_interrupt.false (rw (c.view.ensures.bytes, c.view.ensures.sizes) at c.in_err-pid.ensures.err))

pub returns-in_err-made-clause-done : goal.returns-in_err-made-clause-done
returns-in_err-made-clause-done c =
    let p = err_from_is_err_and c.from_residual-in_err-made.result c.from_residual-in_err-made.ensures.1 in
    rw (p.1, p.2)
    (start_unmade c.requires c.if-in_interrupt.false (rw (c.view.ensures.bytes, c.view.ensures.sizes) at c.in_ok-pid.ensures.ok)
    c.in_err-made.ensures.err.0 c.in_err-made.ensures.err.1)

pub begin-requires : goal.begin-requires
begin-requires c =
    start-begin c.requires c.if-in_interrupt.false (rw (c.view.ensures.bytes, c.view.ensures.sizes) at c.in_ok-pid.ensures.ok) c.newproc.ensures

pub returns-clause-done : goal.returns-clause-done
returns-clause-done c =
    start-done c.requires c.if-in_interrupt.false (rw (c.view.ensures.bytes, c.view.ensures.sizes) at c.in_ok-pid.ensures.ok)
    c.in_ok-made.ensures.ok c.newproc.ensures c.begin.ensures.done
