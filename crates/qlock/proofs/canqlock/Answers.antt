-- `qlock::canqlock` meets its contract: each need by its law.
use Rattle.qlock.specs.Hold.{tried_free, tried_held}
use Rattle.qlock.proofs.canqlock.Goals as goal

pub returns-then-free-clause-done : goal.returns-then-free-clause-done
returns-then-free-clause-done c =
    rw c.if-free.true (tried_free c.requires c.is_held-free.ensures c.if-free.true c.set_held.ensures.put)

pub returns-else-free-clause-done : goal.returns-else-free-clause-done
returns-else-free-clause-done c = rw c.if-free.false (tried_held c.requires c.is_held-free.ensures c.if-free.false)
