-- `proc_timer::tsleep` meets its contract: each need by its law.
use Rattle.std.proofs.lemmas.Result.{err_from_is_err_and}
use Rattle.proc_timer.specs.Tsleep.{tsleep-nobody, tsleep-rest, tsleep-running}
use Rattle.proc_timer.proofs.tsleep.Goals as goal

pub returns-in_err-i-clause-done : goal.returns-in_err-i-clause-done
returns-in_err-i-clause-done c =
    let p = err_from_is_err_and c.from_residual.result c.from_residual.ensures.1 in
    rw (p.1, p.2) (search (tsleep-nobody, rw (c.view.ensures.bytes, c.view.ensures.sizes) at c.in_err-i.ensures.err))

pub sleep_timed-requires : goal.sleep_timed-requires
sleep_timed-requires c = tsleep-running c.requires (rw (c.view.ensures.bytes, c.view.ensures.sizes) at c.in_ok-i.ensures.ok)

pub returns-clause-done : goal.returns-clause-done
returns-clause-done c = tsleep-rest c.in_ok-i.ensures.ok.unmarked c.sleep_timed.ensures.done
