-- `proc::take` meets its contract: each need by its law.
use Rattle.proc.specs.Arms.{take-read}
use Rattle.proc.specs.Taken.{taken-short}
use Rattle.proc.proofs.take.Goals as goal

pub returns-then-message-lt-SHORTEST : goal.returns-then-message-lt-SHORTEST
returns-then-message-lt-SHORTEST c = search taken-short

pub returns : goal.returns
returns c = search take-read
