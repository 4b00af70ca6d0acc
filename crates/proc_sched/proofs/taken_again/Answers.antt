-- `proc_sched::taken_again` meets its contract: each case by its law.
use Rattle.std.proofs.Common.{arith}
use Rattle.proc_sched.specs.Taken.{again-fired, again-nothing, again-own, again-qlock, again-queued, again-sleep, again-slept, again-small, again-tsleep, again-wait}
use Rattle.proc_sched.proofs.taken_again.Goals as goal

pub taken-requires : goal.taken-requires
taken-requires c = again-sleep c.requires c.in-Sleep.is

pub overflow_add-own : goal.overflow_add-own
overflow_add-own c = omega (arith, again-small c.requires)

pub is_queued-queued-requires : goal.is_queued-queued-requires
is_queued-queued-requires c = again-own c.requires

pub taken-requires-then-queued : goal.taken-requires-then-queued
taken-requires-then-queued c = again-tsleep c.requires c.in-Tsleep.is

pub returns-in-Nothing : goal.returns-in-Nothing
returns-in-Nothing c = again-nothing c.requires c.in-Nothing.is

pub returns-in-Sleep : goal.returns-in-Sleep
returns-in-Sleep c = again-slept c.requires c.in-Sleep.is c.taken.ensures

pub returns-then-queued : goal.returns-then-queued
returns-then-queued c = again-queued c.requires c.in-Tsleep.is c.is_queued-queued.ensures c.if-queued.true c.taken-then-queued.ensures

pub returns-else-queued : goal.returns-else-queued
returns-else-queued c = rw c.if-queued.false (again-fired c.requires c.in-Tsleep.is c.is_queued-queued.ensures c.if-queued.false)

pub returns-in-Qlock : goal.returns-in-Qlock
returns-in-Qlock c = again-qlock c.requires c.in-Qlock.is

pub returns-in-Wait : goal.returns-in-Wait
returns-in-Wait c = again-wait c.requires c.in-Wait.is
