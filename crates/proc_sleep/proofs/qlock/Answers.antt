-- `proc_sleep::qlock` meets its contract: each need by its law.
use Rattle.std.proofs.lemmas.Result.{err_from_is_err_and}
use Rattle.proc_sleep.specs.Qlock.{qlock-asleep, qlock-done, qlock-queue, qlock-refused}
use Rattle.proc_sleep.proofs.qlock.Goals as goal

pub returns-then-canqlock-clause-done : goal.returns-then-canqlock-clause-done
returns-then-canqlock-clause-done c = qlock-done c.requires c.canqlock.ensures.done c.if-canqlock.true

pub returns-in_err-i-clause-done : goal.returns-in_err-i-clause-done
returns-in_err-i-clause-done c =
    let p = err_from_is_err_and c.from_residual.result c.from_residual.ensures.1 in
    rw (p.1, p.2)
    (qlock-refused c.requires c.canqlock.ensures.done c.if-canqlock.false
    (rw (c.view.ensures.bytes, c.view.ensures.sizes, c.canqlock.ensures.same.sizes) at c.in_err-i.ensures.err))

pub wait_for-requires : goal.wait_for-requires
wait_for-requires c =
    rw c.canqlock.ensures.same.sizes
    (qlock-queue c.requires c.canqlock.ensures.done c.if-canqlock.false
    (rw (c.view.ensures.bytes, c.view.ensures.sizes, c.canqlock.ensures.same.sizes) at c.in_ok-i.ensures.ok))

pub returns-clause-done : goal.returns-clause-done
returns-clause-done c =
    qlock-asleep c.requires c.canqlock.ensures.done c.if-canqlock.false
    (rw (c.view.ensures.bytes, c.view.ensures.sizes, c.canqlock.ensures.same.sizes) at c.in_ok-i.ensures.ok)
    (rw c.canqlock.ensures.same.sizes at c.wait_for.ensures.done)
