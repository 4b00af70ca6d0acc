-- `timer::by_deadline::del` meets its contract: by its law of specs/Del.antt.
use Rattle.timer.specs.Del.{remove-asks, deleted}
use Rattle.timer.proofs.by_deadline.del.Goals as goal

pub remove-requires : goal.remove-requires
remove-requires c = search remove-asks

pub returns-clause-deleted : goal.returns-clause-deleted
returns-clause-deleted c = search deleted
