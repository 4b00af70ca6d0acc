-- `qlock::enqueue` meets its contract: each need by its law.
use Rattle.qlock.specs.Queue.{enqueue-low, enqueue-push-at, enqueued-at}
use Rattle.std.proofs.Common.{rules}
use Rattle.qlock.proofs.enqueue.Goals as goal

pub push-requires : goal.push-requires
push-requires c = rw c.more_asleep.ensures.same.sizes (enqueue-push-at c.requires c.more_asleep.ensures.done)

pub set-requires-clause-reach : goal.set-requires-clause-reach
set-requires-clause-reach c =
    rw (c.push.ensures.same.sizes, c.more_asleep.ensures.same.sizes) (search (rules, enqueue-low c.requires))

pub returns-clause-done : goal.returns-clause-done
returns-clause-done c =
    let k = c.more_asleep.ensures.same.sizes in
    enqueued-at c.requires c.more_asleep.ensures.done (rw k at c.push.ensures.done)
    (rw (c.number.ensures, c.push.ensures.same.sizes, k) at c.set.ensures.put)
