-- `timers::link_out` meets its contract: by its law of specs/Behind.antt.
use Rattle.memory.specs.Link.{link}
use Rattle.std.proofs.Common.{rules}
use Rattle.timers.specs.Behind.{unlinked}
use Rattle.timers.proofs.link_out.Goals as goal

pub returns-clause-stored : goal.returns-clause-stored
returns-clause-stored c =
    unlinked c.args.s.now c.set_behind.new.s (link c.args.at) c.args.t c.set_behind.ensures.same (grind rules) c.set_behind.ensures.stored
    c.set.ensures.put
