-- `dat::wake_waitr` meets its contract: each need by its law.
use Rattle.dat.specs.Waitr.{own-awaken, own-not, own-woken}
use Rattle.dat.proofs.wake_waitr.Goals as goal

pub returns-else-asleep-clause-done : goal.returns-else-asleep-clause-done
returns-else-asleep-clause-done c = rw c.if-asleep.false (own-not c.requires c.on_waitr-asleep.ensures c.if-asleep.false)

pub awaken-requires : goal.awaken-requires
awaken-requires c =
    rw c.set.ensures.same.sizes
    (own-awaken c.requires c.on_waitr-asleep.ensures c.if-asleep.true (rw c.number.ensures at c.set.ensures.put))

pub returns-then-asleep-clause-done : goal.returns-then-asleep-clause-done
returns-then-asleep-clause-done c =
    rw c.if-asleep.true
    (own-woken c.requires c.on_waitr-asleep.ensures c.if-asleep.true (rw c.number.ensures at c.set.ensures.put)
    (rw c.set.ensures.same.sizes at c.awaken.ensures.done))
