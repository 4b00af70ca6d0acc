-- `decode::read` meets its contract: each kind by its law.
use Rattle.decode.specs.Calls.{reading}
use Rattle.decode.proofs.read.Goals as goal

pub returns-in_ok-how-in-1 : goal.returns-in_ok-how-in-1
returns-in_ok-how-in-1 c = search (reading, c.in_ok-how-in-1.ensures)

pub returns-in_ok-flags-in-2 : goal.returns-in_ok-flags-in-2
returns-in_ok-flags-in-2 c = search (reading, c.in_ok-flags-in-2.ensures)

pub returns-in_ok-bytes-in-3 : goal.returns-in_ok-bytes-in-3
returns-in_ok-bytes-in-3 c = search (reading, c.in_ok-bytes-in-3.ensures)

pub returns-in_ok-numbers-in-4 : goal.returns-in_ok-numbers-in-4
returns-in_ok-numbers-in-4 c = search (reading, c.in_ok-numbers-in-4.ensures)

pub returns-in_ok-numbers-in-5 : goal.returns-in_ok-numbers-in-5
returns-in_ok-numbers-in-5 c = search (reading, c.in_ok-numbers-in-5.ensures)

pub returns-in_ok-rendez-in-6 : goal.returns-in_ok-rendez-in-6
returns-in_ok-rendez-in-6 c = search (reading, c.in_ok-rendez-in-6.ensures)

pub returns-in_ok-rendez-in-7 : goal.returns-in_ok-rendez-in-7
returns-in_ok-rendez-in-7 c = search (reading, c.in_ok-rendez-in-7.ensures)

pub returns-in_ok-rendez-in-8 : goal.returns-in_ok-rendez-in-8
returns-in_ok-rendez-in-8 c = search (reading, c.in_ok-rendez-in-8.ensures)

pub returns-in_ok-lock-in-9 : goal.returns-in_ok-lock-in-9
returns-in_ok-lock-in-9 c = search (reading, c.in_ok-lock-in-9.ensures)

pub returns-in_ok-lock-in-10 : goal.returns-in_ok-lock-in-10
returns-in_ok-lock-in-10 c = search (reading, c.in_ok-lock-in-10.ensures)

pub returns-in_ok-lock-in-11 : goal.returns-in_ok-lock-in-11
returns-in_ok-lock-in-11 c = search (reading, c.in_ok-lock-in-11.ensures)

pub returns-in_ok-condition-in-12 : goal.returns-in_ok-condition-in-12
returns-in_ok-condition-in-12 c = search (reading, c.in_ok-condition-in-12.ensures)

pub returns-in_ok-reading-in-13 : goal.returns-in_ok-reading-in-13
returns-in_ok-reading-in-13 c = search (reading, c.in_ok-reading-in-13.ensures)

pub returns-in_ok-timer-in-14 : goal.returns-in_ok-timer-in-14
returns-in_ok-timer-in-14 c = search (reading, c.in_ok-timer-in-14.ensures)

pub returns-in_ok-timer-in-15 : goal.returns-in_ok-timer-in-15
returns-in_ok-timer-in-15 c = search (reading, c.in_ok-timer-in-15.ensures)

pub returns-in_ok-reading-in-16 : goal.returns-in_ok-reading-in-16
returns-in_ok-reading-in-16 c = search (reading, c.in_ok-reading-in-16.ensures)

pub returns-in_ok-numbers-in-17 : goal.returns-in_ok-numbers-in-17
returns-in_ok-numbers-in-17 c = search (reading, c.in_ok-numbers-in-17.ensures)

pub returns-in_ok-status-in-18 : goal.returns-in_ok-status-in-18
returns-in_ok-status-in-18 c = search (reading, c.in_ok-status-in-18.ensures)

pub returns-in_ok-numbers-in-19 : goal.returns-in_ok-numbers-in-19
returns-in_ok-numbers-in-19 c = search (reading, c.in_ok-numbers-in-19.ensures)
