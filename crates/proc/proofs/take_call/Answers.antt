-- `proc::take_call` meets its contract: each need by its law.
use Rattle.proc.specs.Arms.{call_none, call_some, call-canqlock, call-clock, call-cond, call-due, call-exit, call-intr, call-name, call-qlock, call-qunlock, call-rfork, call-sched, call-sleep, call-start, call-tadd, call-tdel, call-tsleep, call-wait, call-wakeup, call-yield}
use Rattle.proc.specs.Plain.{took-plain}
use Rattle.proc.proofs.take_call.Goals as goal

pub returns-in_default-clause-done : goal.returns-in_default-clause-done
returns-in_default-clause-done c = call_none c.requires c.in_default.is

pub returns-in-Start-clause-done : goal.returns-in-Start-clause-done
returns-in-Start-clause-done c = call_some c.in-Some.is (search call-start)

pub returns-in-Rfork-clause-done : goal.returns-in-Rfork-clause-done
returns-in-Rfork-clause-done c = call_some c.in-Some.is (search call-rfork)

pub returns-in-Name-clause-done : goal.returns-in-Name-clause-done
returns-in-Name-clause-done c = call_some c.in-Some.is (search call-name)

pub returns-in-Sched-clause-done : goal.returns-in-Sched-clause-done
returns-in-Sched-clause-done c = call_some c.in-Some.is (search call-sched)

pub returns-in-Yield-clause-done : goal.returns-in-Yield-clause-done
returns-in-Yield-clause-done c = call_some c.in-Some.is (search call-yield)

pub returns-in-Sleep-clause-done : goal.returns-in-Sleep-clause-done
returns-in-Sleep-clause-done c = call_some c.in-Some.is (search call-sleep)

pub returns-in-Tsleep-clause-done : goal.returns-in-Tsleep-clause-done
returns-in-Tsleep-clause-done c = call_some c.in-Some.is (search call-tsleep)

pub returns-in-Wakeup-clause-done : goal.returns-in-Wakeup-clause-done
returns-in-Wakeup-clause-done c = call_some c.in-Some.is (search (call-wakeup, took-plain))

pub returns-in-Qlock-clause-done : goal.returns-in-Qlock-clause-done
returns-in-Qlock-clause-done c = call_some c.in-Some.is (search call-qlock)

pub returns-in-Canqlock-clause-done : goal.returns-in-Canqlock-clause-done
returns-in-Canqlock-clause-done c = call_some c.in-Some.is (search (call-canqlock, took-plain))

pub returns-in-Qunlock-clause-done : goal.returns-in-Qunlock-clause-done
returns-in-Qunlock-clause-done c = call_some c.in-Some.is (search (call-qunlock, took-plain))

pub returns-in-Cond-clause-done : goal.returns-in-Cond-clause-done
returns-in-Cond-clause-done c = call_some c.in-Some.is (search (call-cond, took-plain))

pub returns-in-Clock-clause-done : goal.returns-in-Clock-clause-done
returns-in-Clock-clause-done c = call_some c.in-Some.is (search call-clock)

pub returns-in-Tadd-clause-done : goal.returns-in-Tadd-clause-done
returns-in-Tadd-clause-done c = call_some c.in-Some.is (search (call-tadd, took-plain))

pub returns-in-Tdel-clause-done : goal.returns-in-Tdel-clause-done
returns-in-Tdel-clause-done c = call_some c.in-Some.is (search (call-tdel, took-plain))

pub returns-in-Intr-clause-done : goal.returns-in-Intr-clause-done
returns-in-Intr-clause-done c = call_some c.in-Some.is (search call-intr)

pub returns-in-Due-clause-done : goal.returns-in-Due-clause-done
returns-in-Due-clause-done c =
    call_some c.in-Some.is (call-due c.requires c.in-Due.is (rw (c.view.ensures.bytes, c.view.ensures.sizes) at c.due.ensures))

pub returns-in-Exit-clause-done : goal.returns-in-Exit-clause-done
returns-in-Exit-clause-done c = call_some c.in-Some.is (search call-exit)

pub returns-in-Wait-clause-done : goal.returns-in-Wait-clause-done
returns-in-Wait-clause-done c = call_some c.in-Some.is (search call-wait)
