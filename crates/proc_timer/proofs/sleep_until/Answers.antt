-- `proc_timer::sleep_until` meets its contract: each need by its law.
use Rattle.proc_timer.specs.Own.{sleeps_until, until_after, until_fits, until_off}
use Rattle.proc_timer.proofs.sleep_until.Goals as goal

pub overflow_add-own : goal.overflow_add-own
overflow_add-own c = until_fits c.requires

pub add_after-requires : goal.add_after-requires
add_after-requires c = until_after c.requires

pub fall_asleep-requires : goal.fall_asleep-requires
fall_asleep-requires c = rw c.add_after.ensures.same.sizes (until_off c.requires c.ranges.c c.add_after.ensures.done)

pub returns-clause-done : goal.returns-clause-done
returns-clause-done c =
    sleeps_until c.add_after.ensures.done (rw c.add_after.ensures.same.sizes at c.fall_asleep.ensures.done)
