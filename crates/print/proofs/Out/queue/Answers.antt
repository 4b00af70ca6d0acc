-- `print::Out::queue` meets its contract: each case by its law.
use Rattle.print.specs.Queue.{queue-none, queue-first, queue-rest, queue-some}
use Rattle.print.proofs.Out.queue.Goals as goal

pub pid-requires : goal.pid-requires
pid-requires c = queue-first c.requires c.in-Some.ensures.value

pub rest-requires : goal.rest-requires
rest-requires c = queue-rest c.requires c.in-Some.ensures.value c.pid.ensures.put

pub returns-in-None-clause-put : goal.returns-in-None-clause-put
returns-in-None-clause-put c = queue-none c.requires c.in-None.ensures.value c.text.ensures.put

pub returns-in-Some-clause-put : goal.returns-in-Some-clause-put
returns-in-Some-clause-put c = queue-some c.requires c.in-Some.ensures.value c.pid.ensures.put c.rest.ensures.put
