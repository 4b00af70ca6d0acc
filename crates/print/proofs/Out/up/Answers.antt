-- `print::Out::up` meets its contract: each case by its law.
use Rattle.print.specs.Pids.{up-asks, up_none, up-some}
use Rattle.print.proofs.Out.up.Goals as goal

pub pid-requires : goal.pid-requires
pid-requires c = up-asks c.in-Some.ensures.value c.requires

pub returns-in-None-clause-put : goal.returns-in-None-clause-put
returns-in-None-clause-put c = up_none c.in-None.ensures.value c.text.ensures.put

pub returns-in-Some-clause-put : goal.returns-in-Some-clause-put
returns-in-Some-clause-put c = up-some c.in-Some.ensures.value c.pid.ensures.put
