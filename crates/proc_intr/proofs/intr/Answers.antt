-- `proc_intr::intr` meets its contract: each need by its law.
use Rattle.proc_intr.specs.Step.{intr_8, intr-due, intr-fired}
use Rattle.proc_intr.proofs.intr.Goals as goal

pub returns-then-bad_now-clause-done : goal.returns-then-bad_now-clause-done
returns-then-bad_now-clause-done c =
    intr_8 c.requires c.ranges.reading (rw (c.view.ensures.sizes, c.view.ensures.bytes) at c.bad_now.ensures) c.if-bad_now.true

pub interrupt-timers-requires : goal.interrupt-timers-requires
interrupt-timers-requires c =
    rw c.set_now.ensures.same.sizes
    (intr-due c.requires (rw (c.view.ensures.sizes, c.view.ensures.bytes) at c.bad_now.ensures) c.if-bad_now.false c.set_now.ensures.became)

pub returns-clause-done : goal.returns-clause-done
returns-clause-done c =
    intr-fired c.requires (rw (c.view.ensures.sizes, c.view.ensures.bytes) at c.bad_now.ensures) c.if-bad_now.false
    c.set_now.ensures.became
    (rw c.set_now.ensures.same.sizes at c.interrupt-timers.ensures.done)
