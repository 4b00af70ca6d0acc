-- `print::Out::pid` meets its contract: the pid that the memory holds is the machine's.
use Rattle.print.specs.Pids.{pid-put}
use Rattle.print.proofs.Out.pid.Goals as goal

pub returns-clause-put : goal.returns-clause-put
returns-clause-put c = search pid-put
