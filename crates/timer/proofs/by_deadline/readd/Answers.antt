-- `timer::by_deadline::readd` meets its contract: each return cites its law of specs/Readd.antt.
use Rattle.std.proofs.Common.{arith}
use Rattle.timer.specs.Readd.{readd-fits, readded-own, readded-once, readded}
use Rattle.timer.proofs.by_deadline.readd.Goals as goal

pub returns-then-s-t-clause-readded : goal.returns-then-s-t-clause-readded
returns-then-s-t-clause-readded c = search readded-own

pub returns-then-period-eq0-clause-readded : goal.returns-then-period-eq0-clause-readded
returns-then-period-eq0-clause-readded c = search readded-once

pub overflow_add-deadline : goal.overflow_add-deadline
overflow_add-deadline c = omega (arith, readd-fits)

pub returns-clause-readded : goal.returns-clause-readded
returns-clause-readded c = search readded
