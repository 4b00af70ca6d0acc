-- `queue::Fields::pop` meets its contract: what each call asks is in what the caller promised, and the links are in range.
use Rattle.queue.specs.Field.{fits-link}
use Rattle.queue.proofs.Fields.pop.Goals as goal

pub pop-requires : goal.pop-requires
pop-requires c = c.requires.asks c.load-q.ensures

pub store-requires-clause-head : goal.store-requires-clause-head
store-requires-clause-head c = fits-link c.pop.new.q.head c.in_ok-first.ensures.done.head (c.requires.asks c.load-q.ensures).sizes.processes.1

pub store-requires-clause-tail : goal.store-requires-clause-tail
store-requires-clause-tail c = fits-link c.pop.new.q.tail c.in_ok-first.ensures.done.tail (c.requires.asks c.load-q.ensures).sizes.processes.1
