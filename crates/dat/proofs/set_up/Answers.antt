-- `dat::set_up` meets its contract: each need by its law.
use Rattle.dat.specs.Own.{ran, run-low, run_small}
use Rattle.std.proofs.Common.{rules, arith}
use Rattle.dat.proofs.set_up.Goals as goal

pub set-requires-clause-fits : goal.set-requires-clause-fits
set-requires-clause-fits c = omega (arith, run_small c.requires)

pub set-requires-2-clause-reach : goal.set-requires-2-clause-reach
set-requires-2-clause-reach c = rw c.set.ensures.same.sizes (search (rules, run-low c.requires))

pub returns-clause-done : goal.returns-clause-done
returns-clause-done c = ran c.requires c.set.ensures.put (rw (c.number.ensures, c.set.ensures.same.sizes) at c.set-2.ensures.put)
