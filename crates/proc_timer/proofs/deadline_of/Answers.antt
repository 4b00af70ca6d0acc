-- `proc_timer::deadline_of` meets its contract: what the attribute's laws leave.
use Rattle.proc_timer.specs.Counting.{counted_9, counted-all}
use Rattle.proc_timer.proofs.deadline_of.Goals as goal

pub returns-then-counts-gt-MOST_COUNTS-clause-err : goal.returns-then-counts-gt-MOST_COUNTS-clause-err
returns-then-counts-gt-MOST_COUNTS-clause-err c = search counted_9

pub returns-clause-ok : goal.returns-clause-ok
returns-clause-ok c = search counted-all
