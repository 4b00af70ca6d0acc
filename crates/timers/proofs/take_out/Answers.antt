-- `timers::take_out` meets its contract: by its law of specs/Behind.antt.
use Rattle.memory.specs.Link.{link}
use Rattle.timers.specs.Behind.{taken-out}
use Rattle.timers.proofs.take_out.Goals as goal

pub returns-clause-stored : goal.returns-clause-stored
returns-clause-stored c = taken-out (link c.args.at) c.args.t c.link_out.ensures.same c.link_out.ensures.stored c.set_queued.ensures.put
