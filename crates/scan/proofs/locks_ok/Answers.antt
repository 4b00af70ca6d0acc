-- `scan::locks_ok` meets its contract: none is left.
use Rattle.scan.specs.Locks.{unmet_none}
use Rattle.scan.proofs.locks_ok.Goals as goal

pub returns : goal.returns
returns c = unmet_none c.unmet.result c.eq.result c.unmet.ensures c.eq.ensures
