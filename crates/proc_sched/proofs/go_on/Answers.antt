-- `proc_sched::go_on` meets its contract: each case by its law.
use Rattle.proc_sched.specs.Go.{go-sleep, go-tsleep, go-wait, went-nothing, went-qlock, went-sleep, went-tsleep, went-wait}
use Rattle.proc_sched.proofs.go_on.Goals as goal

pub check_sleep-requires : goal.check_sleep-requires
check_sleep-requires c = go-sleep c.requires c.in-Sleep.is

pub check_tsleep-requires : goal.check_tsleep-requires
check_tsleep-requires c = go-tsleep c.requires c.in-Tsleep.is

pub check_wait-requires : goal.check_wait-requires
check_wait-requires c = go-wait c.requires c.in-Wait.is

pub returns-in-Nothing-clause-done : goal.returns-in-Nothing-clause-done
returns-in-Nothing-clause-done c = went-nothing c.requires c.in-Nothing.is c.run_on.ensures.done

pub returns-in-Sleep-clause-done : goal.returns-in-Sleep-clause-done
returns-in-Sleep-clause-done c = went-sleep c.requires c.in-Sleep.is c.check_sleep.ensures.done

pub returns-in-Tsleep-clause-done : goal.returns-in-Tsleep-clause-done
returns-in-Tsleep-clause-done c = went-tsleep c.requires c.in-Tsleep.is c.check_tsleep.ensures.done

pub returns-in-Qlock-clause-done : goal.returns-in-Qlock-clause-done
returns-in-Qlock-clause-done c = went-qlock c.requires c.in-Qlock.is c.run_on-in-Qlock.ensures.done

pub returns-in-Wait-clause-done : goal.returns-in-Wait-clause-done
returns-in-Wait-clause-done c = went-wait c.requires c.in-Wait.is c.check_wait.ensures.done
