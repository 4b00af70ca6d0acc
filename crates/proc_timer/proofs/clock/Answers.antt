-- `proc_timer::clock` meets its contract: each need by its law.
use Rattle.proc_timer.specs.Clock.{clock_8, clock-done, first-asks}
use Rattle.proc_timer.proofs.clock.Goals as goal

pub returns-then-bad_now-clause-done : goal.returns-then-bad_now-clause-done
returns-then-bad_now-clause-done c =
    clock_8 c.requires c.ranges.reading (rw (c.view.ensures.bytes, c.view.ensures.sizes) at c.bad_now.ensures) c.if-bad_now.true

pub add_after-requires : goal.add_after-requires
add_after-requires c =
    first-asks c.requires (rw (c.view.ensures.bytes, c.view.ensures.sizes) at c.bad_now.ensures) c.if-bad_now.false c.get-counts.ensures.value

pub returns-clause-done : goal.returns-clause-done
returns-clause-done c =
    clock-done c.requires c.ranges.reading (rw (c.view.ensures.bytes, c.view.ensures.sizes) at c.bad_now.ensures) c.if-bad_now.false c.get-counts.ensures.value
    c.add_after.ensures.done
