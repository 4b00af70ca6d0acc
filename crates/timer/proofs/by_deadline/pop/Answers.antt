-- `timer::by_deadline::pop` meets its contract: by its law of specs/Pop.antt.
use Rattle.timer.specs.Pop.{popped, pop-link}
use Rattle.timer.proofs.by_deadline.pop.Goals as goal

pub take_out-requires : goal.take_out-requires
take_out-requires c = pop-link c.requires

pub returns-clause-deleted : goal.returns-clause-deleted
returns-clause-deleted c = popped c.requires c.take_out.ensures.stored
