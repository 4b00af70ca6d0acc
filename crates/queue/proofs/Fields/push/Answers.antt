-- `queue::Fields::push` meets its contract: what each call asks is in what the caller promised, and the links are in range.
use Rattle.queue.specs.Field.{fits-link}
use Rattle.queue.proofs.Fields.push.Goals as goal

pub push-requires : goal.push-requires
push-requires c = c.requires.asks c.load-q.ensures

pub store-requires-clause-head : goal.store-requires-clause-head
store-requires-clause-head c = fits-link c.push.new.q.head c.push.ensures.done.head (c.requires.asks c.load-q.ensures).sizes.processes.1

pub store-requires-clause-tail : goal.store-requires-clause-tail
store-requires-clause-tail c = fits-link c.push.new.q.tail c.push.ensures.done.tail (c.requires.asks c.load-q.ensures).sizes.processes.1
