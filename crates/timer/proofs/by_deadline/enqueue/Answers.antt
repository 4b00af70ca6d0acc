-- `timer::by_deadline::enqueue` meets its contract: by its law of specs/Add.antt.
use Rattle.timer.specs.Add.{insert-asks, queued}
use Rattle.timer.proofs.by_deadline.enqueue.Goals as goal

pub insert-requires : goal.insert-requires
insert-requires c = search insert-asks

pub returns-clause-queued : goal.returns-clause-queued
returns-clause-queued c = search queued
