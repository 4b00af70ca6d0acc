-- `dat::more_asleep` meets its contract: each need by its law.
use Rattle.dat.specs.Asleep.{raised}
use Rattle.dat.proofs.more_asleep.Goals as goal

pub returns-clause-done : goal.returns-clause-done
returns-clause-done c = search raised
