-- `dat::wait_on` meets its contract: each need by its law.
use Rattle.dat.specs.Waitr.{wait-low, waited}
use Rattle.std.proofs.Common.{rules}
use Rattle.dat.proofs.wait_on.Goals as goal

pub set-requires-clause-reach : goal.set-requires-clause-reach
set-requires-clause-reach c = rw c.more_asleep.ensures.same.sizes (search (rules, wait-low c.requires))

pub returns-clause-done : goal.returns-clause-done
returns-clause-done c =
    waited c.requires c.more_asleep.ensures.done (rw (c.number.ensures, c.more_asleep.ensures.same.sizes) at c.set.ensures.put)
