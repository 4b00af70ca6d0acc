-- `proc_wait::wait` meets its contract: each need by its law.
use Rattle.std.proofs.lemmas.Result.{err_from_is_err_and}
use Rattle.proc_wait.specs.Wait.{wait-pwait, wait-refused, wait-rest}
use Rattle.proc_wait.proofs.wait.Goals as goal

pub returns-in_err-i-clause-done : goal.returns-in_err-i-clause-done
returns-in_err-i-clause-done c =
    let p = err_from_is_err_and c.from_residual.result c.from_residual.ensures.1 in
    rw (p.1, p.2) (wait-refused c.requires (rw (c.view.ensures.bytes, c.view.ensures.sizes) at c.in_err-i.ensures.err))

pub pwait-requires : goal.pwait-requires
pwait-requires c = wait-pwait c.requires (rw (c.view.ensures.bytes, c.view.ensures.sizes) at c.in_ok-i.ensures.ok)

pub returns-clause-done : goal.returns-clause-done
returns-clause-done c = wait-rest c.in_ok-i.ensures.ok.unmarked c.pwait.ensures.done
