-- `proc::duration_of` meets its contract: each need by its law.
use Rattle.proc.specs.Ranges.{lasting, not_lasting, too_long}
use Rattle.proc.proofs.duration_of.Goals as goal

pub returns-in_default-clause-err : goal.returns-in_default-clause-err
returns-in_default-clause-err c = too_long c.in_default.ensures

pub returns-then-valid-clause-ok : goal.returns-then-valid-clause-ok
returns-then-valid-clause-ok c = lasting c.in-Ok.ensures.1 c.valid.ensures c.if-valid.true

pub returns-else-valid-clause-err : goal.returns-else-valid-clause-err
returns-else-valid-clause-err c = not_lasting _ c.in-Ok.ensures.1 c.valid.ensures c.if-valid.false
