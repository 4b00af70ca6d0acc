-- `record::Resume::of` meets its contract: each kind has its case, and a number that no kind has says nothing.
use Rattle.std.proofs.Common.{sym}
use Rattle.record.specs.Resumes.{is-sleep, is-tsleep, is-qlock, is-wait, is-zero, is-other}
use Rattle.record.proofs.Resume.of.Goals as goal

pub returns-in-Some-Sleep : goal.returns-in-Some-Sleep
returns-in-Some-Sleep c = is-sleep (sym (rw c.in-Some-Sleep.field-0-is at c.in-Some-Sleep.ensures.some))

pub returns-in-Some-Tsleep : goal.returns-in-Some-Tsleep
returns-in-Some-Tsleep c = is-tsleep (sym (rw c.in-Some-Tsleep.field-0-is at c.in-Some-Tsleep.ensures.some))

pub returns-in-Some-Qlock : goal.returns-in-Some-Qlock
returns-in-Some-Qlock c = is-qlock (sym (rw c.in-Some-Qlock.field-0-is at c.in-Some-Qlock.ensures.some))

pub returns-in-Some-Wait : goal.returns-in-Some-Wait
returns-in-Some-Wait c = is-wait (sym (rw c.in-Some-Wait.field-0-is at c.in-Some-Wait.ensures.some))

pub returns-in-Some-Nothing : goal.returns-in-Some-Nothing
returns-in-Some-Nothing c = is-zero (sym (rw c.in-Some-Nothing.field-0-is at c.in-Some-Nothing.ensures.some))

pub returns-in-None : goal.returns-in-None
returns-in-None c = is-other c.in-None.ensures.none
