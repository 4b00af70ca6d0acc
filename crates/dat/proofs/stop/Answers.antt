-- `dat::stop` meets its contract: each need by its law.
use Rattle.dat.specs.Own.{stopped}
use Rattle.dat.proofs.stop.Goals as goal

pub returns-clause-done : goal.returns-clause-done
returns-clause-done c = search stopped
