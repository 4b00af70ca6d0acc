-- `records::next_pid` meets its contract: each need by its law.
use Rattle.records.specs.Pid.{pid-taken}
use Rattle.records.proofs.next_pid.Goals as goal

pub returns-clause-done : goal.returns-clause-done
returns-clause-done c = search pid-taken
