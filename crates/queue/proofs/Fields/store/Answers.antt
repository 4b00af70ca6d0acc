-- `queue::Fields::store` meets its contract.
use Rattle.queue.specs.Held.{held-reach, held-stored}
use Rattle.queue.proofs.Fields.store.Goals as goal

pub set-requires-2-clause-reach : goal.set-requires-2-clause-reach
set-requires-2-clause-reach c = search held-reach

pub returns-clause-stored : goal.returns-clause-stored
returns-clause-stored c = search held-stored
