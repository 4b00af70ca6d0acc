-- `queue::without_first` meets its contract: each return cites its law of specs/Pop.antt.
use Rattle.queue.specs.Pop.{pop-reach, popped-none, popped-some}
use Rattle.queue.proofs.without_first.Goals as goal

pub returns-in_err-first-clause-done : goal.returns-in_err-first-clause-done
returns-in_err-first-clause-done c = search (popped-none, c.in_err-first.was)

pub get-next-requires : goal.get-next-requires
get-next-requires c = search (pop-reach, c.in_ok-first.was)

pub set-requires-clause-reach : goal.set-requires-clause-reach
set-requires-clause-reach c = search (pop-reach, c.in_ok-first.was)

pub returns-clause-done : goal.returns-clause-done
returns-clause-done c = search (popped-some, c.in_ok-first.was)
