-- `proc_timer::sleep_timed` meets its contract: each need by its law.
use Rattle.std.proofs.lemmas.Result.{err_from_is_err_and}
use Rattle.proc_timer.specs.Timed.{tsleep-asks, tsleep_for, tsleep-refused}
use Rattle.proc_timer.proofs.sleep_timed.Goals as goal

pub returns-in_err-at-clause-done : goal.returns-in_err-at-clause-done
returns-in_err-at-clause-done c =
    let p = err_from_is_err_and c.from_residual.result c.from_residual.ensures.1 in
    rw (p.1, p.2) (tsleep-refused c.requires c.ranges.c (rw (c.view.ensures.bytes, c.view.ensures.sizes) at c.in_err-at.ensures.err))

pub sleep_for-requires : goal.sleep_for-requires
sleep_for-requires c = tsleep-asks c.requires (rw (c.view.ensures.bytes, c.view.ensures.sizes) at c.in_ok-at.ensures.ok)

pub returns-clause-done : goal.returns-clause-done
returns-clause-done c =
    tsleep_for c.requires c.ranges.c (rw (c.view.ensures.bytes, c.view.ensures.sizes) at c.in_ok-at.ensures.ok)
    c.sleep_for.ensures.done
