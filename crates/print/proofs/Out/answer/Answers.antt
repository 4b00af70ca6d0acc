-- `print::Out::answer` meets its contract: each answer by its law.
-- An answer for each: with their laws named on the function the search gives up at its limit.
use Rattle.machine.specs.Basics.{ascii}
use Rattle.print.specs.Reply.{reply-pid, reply-run, reply-run-child, reply-done, reply-asleep, reply-yes, reply-no, reply-fired, reply-exit, reply-child, reply-idle, reply-end}
use Rattle.print.proofs.Out.answer.Goals as goal

pub returns-in-Pid-clause-put : goal.returns-in-Pid-clause-put
unfolding ascii
returns-in-Pid-clause-put c = search reply-pid

pub returns-in-Run-clause-put : goal.returns-in-Run-clause-put
unfolding ascii
returns-in-Run-clause-put c = search reply-run

pub returns-in-RunChild-clause-put : goal.returns-in-RunChild-clause-put
unfolding ascii
returns-in-RunChild-clause-put c = reply-run-child c.in-RunChild.is (rw c.from.ensures at c.run_child.ensures.put)

pub returns-in-Done-clause-put : goal.returns-in-Done-clause-put
unfolding ascii
returns-in-Done-clause-put c = search reply-done

pub returns-in-Asleep-clause-put : goal.returns-in-Asleep-clause-put
unfolding ascii
returns-in-Asleep-clause-put c = search reply-asleep

pub returns-in-Yes-clause-put : goal.returns-in-Yes-clause-put
unfolding ascii
returns-in-Yes-clause-put c = search reply-yes

pub returns-in-No-clause-put : goal.returns-in-No-clause-put
unfolding ascii
returns-in-No-clause-put c = search reply-no

pub returns-in-Fired-clause-put : goal.returns-in-Fired-clause-put
unfolding ascii
returns-in-Fired-clause-put c = search reply-fired

pub returns-in-Exit-clause-put : goal.returns-in-Exit-clause-put
unfolding ascii
returns-in-Exit-clause-put c = search reply-exit

pub returns-in-Child-clause-put : goal.returns-in-Child-clause-put
unfolding ascii
returns-in-Child-clause-put c = reply-child c.in-Child.is (rw c.from-in-Child.ensures at c.with_text-in-Child.ensures.put)

pub returns-in-Idle-clause-put : goal.returns-in-Idle-clause-put
unfolding ascii
returns-in-Idle-clause-put c = search reply-idle

pub returns-in-End-clause-put : goal.returns-in-End-clause-put
unfolding ascii
returns-in-End-clause-put c = search reply-end
