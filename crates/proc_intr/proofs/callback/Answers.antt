-- `proc_intr::callback` meets its contract: each need by its law.
use Rattle.proc_intr.specs.Callback.{callback-own, callback-ticks, callback-wakes, called-own, called-tick, called_kernel}
use Rattle.proc_intr.proofs.callback.Goals as goal

pub tick-requires : goal.tick-requires
tick-requires c = callback-ticks c.requires

pub wakeup-requires : goal.wakeup-requires
wakeup-requires c = callback-wakes c.requires c.get-r.ensures.value

pub twakeup-requires : goal.twakeup-requires
twakeup-requires c = callback-own c.requires c.in-Process.ensures

pub returns-in-Clock-clause-done : goal.returns-in-Clock-clause-done
returns-in-Clock-clause-done c = record { woke = 0; took = called-tick c.requires c.in-Clock.ensures c.tick.ensures.became }

pub returns-in-Kernel-clause-done : goal.returns-in-Kernel-clause-done
returns-in-Kernel-clause-done c =
    record { woke = _; took = called_kernel c.requires c.in-Kernel.ensures c.get-r.ensures.value c.wakeup.ensures.done }

pub returns-in-Process-clause-done : goal.returns-in-Process-clause-done
returns-in-Process-clause-done c =
    record {
      woke = c.twakeup.ensures.done.woke;
      took = called-own c.requires c.in-Process.ensures c.twakeup.ensures.done.took;
    }
