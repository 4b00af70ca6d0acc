-- `queue::with_last` meets its contract: each return cites its law of specs/Push.antt.
use Rattle.queue.specs.Push.{push-reach, pushed_none, pushed-some}
use Rattle.queue.proofs.with_last.Goals as goal

pub returns-in_default-clause-done : goal.returns-in_default-clause-done
returns-in_default-clause-done c = search pushed_none

pub set-requires-2-clause-reach : goal.set-requires-2-clause-reach
set-requires-2-clause-reach c = search push-reach

pub returns-clause-done : goal.returns-clause-done
returns-clause-done c = search pushed-some
