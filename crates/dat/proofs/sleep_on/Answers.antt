-- `dat::sleep_on` meets its contract: each need by its law.
use Rattle.dat.specs.Rendez.{sleep-low, sleep-small, slept}
use Rattle.std.proofs.Common.{rules, arith}
use Rattle.dat.proofs.sleep_on.Goals as goal

pub set-requires-clause-fits : goal.set-requires-clause-fits
set-requires-clause-fits c = omega (arith, sleep-small c.requires)

pub set-requires-2-clause-reach : goal.set-requires-2-clause-reach
set-requires-2-clause-reach c =
    rw (c.set.ensures.same.sizes, c.more_asleep.ensures.same.sizes) (search (rules, sleep-low c.requires))

pub returns-clause-done : goal.returns-clause-done
returns-clause-done c =
    slept c.requires c.more_asleep.ensures.done
    (rw c.more_asleep.ensures.same.sizes at c.set.ensures.put)
    (rw (c.number.ensures, c.set.ensures.same.sizes, c.more_asleep.ensures.same.sizes) at c.set-2.ensures.put)
