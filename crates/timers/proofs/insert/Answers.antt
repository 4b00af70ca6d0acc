-- `timers::insert` meets its contract: by its law of specs/Behind.antt.
use Rattle.std.proofs.Common.{rules}
use Rattle.timers.specs.Behind.{inserted-into}
use Rattle.timers.proofs.insert.Goals as goal

pub returns-clause-inserted : goal.returns-clause-inserted
returns-clause-inserted c =
    let done =
    inserted-into c.requires c.link_in.ensures.same c.set.ensures.same (rw (c.view.ensures.bytes, c.view.ensures.sizes) at c.find_before-at.ensures)
    c.link_in.ensures.stored c.set.ensures.put c.set_queued.ensures.put c.ranges.deadline
    in search rules
