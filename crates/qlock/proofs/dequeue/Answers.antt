-- `qlock::dequeue` meets its contract: each need by its law.
use Rattle.qlock.specs.Queue.{dequeue-pop-at, dequeued-at}
use Rattle.qlock.proofs.dequeue.Goals as goal

pub pop-requires : goal.pop-requires
pop-requires c = dequeue-pop-at c.requires

pub returns-clause-done : goal.returns-clause-done
returns-clause-done c = dequeued-at c.requires c.pop.ensures.done
