-- `proc_sleep::sleep` meets its contract: each need by its law.
use Rattle.proc_sleep.specs.Sleep.{sleep-held, sleep-marked}
use Rattle.proc_sleep.proofs.sleep.Goals as goal

pub returns-then-in_interrupt-clause-done : goal.returns-then-in_interrupt-clause-done
returns-then-in_interrupt-clause-done c = sleep-marked c.requires c.ranges.c.fits c.if-in_interrupt.true

pub returns-then-holds-clause-done : goal.returns-then-holds-clause-done
returns-then-holds-clause-done c =
    sleep-held c.requires c.ranges.c.fits c.if-in_interrupt.false (rw (c.view.ensures.bytes, c.view.ensures.sizes) at c.holds.ensures) c.if-holds.true
