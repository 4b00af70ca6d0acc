-- `proc_sleep::yield_now` meets its contract: each need by its law.
use Rattle.std.proofs.lemmas.Result.{err_from_is_err_and}
use Rattle.proc_sleep.specs.Yield.{yield-done, yield-refused, yield-ready}
use Rattle.proc_sleep.proofs.yield_now.Goals as goal

pub returns-in_err-i-clause-done : goal.returns-in_err-i-clause-done
returns-in_err-i-clause-done c =
    let p = err_from_is_err_and c.from_residual.result c.from_residual.ensures.1 in
    rw (p.1, p.2) (yield-refused c.requires (rw (c.view.ensures.bytes, c.view.ensures.sizes) at c.in_err-i.ensures.err))

pub ready-requires : goal.ready-requires
ready-requires c =
    rw c.stop.ensures.same.sizes (yield-ready c.requires (rw (c.view.ensures.bytes, c.view.ensures.sizes) at c.in_ok-i.ensures.ok) c.stop.ensures.done)

pub returns-clause-done : goal.returns-clause-done
returns-clause-done c =
    yield-done c.requires (rw (c.view.ensures.bytes, c.view.ensures.sizes) at c.in_ok-i.ensures.ok) c.stop.ensures.done
    (rw c.stop.ensures.same.sizes at c.ready.ensures.done)
