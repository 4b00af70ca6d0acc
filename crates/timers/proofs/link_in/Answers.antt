-- `timers::link_in` meets its contract: by its law of specs/Behind.antt.
use Rattle.std.proofs.Common.{add-one}
use Rattle.memory.specs.Link.{link}
use Rattle.timers.specs.Behind.{linked}
use Rattle.timers.proofs.link_in.Goals as goal

pub returns-clause-stored : goal.returns-clause-stored
returns-clause-stored c =
    linked c.args.s.now c.set.new.self (link c.args.at) c.args.t c.set.ensures.same c.behind-next.ensures c.set.ensures.put
    (rw (add-one c.args.t) at c.set_behind.ensures.stored)
