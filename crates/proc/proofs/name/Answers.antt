-- `proc::name` meets its contract: each need by its law.
use Rattle.proc.specs.Outside.{name-outside}
use Rattle.proc.proofs.name.Goals as goal

pub returns-then-bytes-gt28-clause-done : goal.returns-then-bytes-gt28-clause-done
returns-then-bytes-gt28-clause-done c = search name-outside
