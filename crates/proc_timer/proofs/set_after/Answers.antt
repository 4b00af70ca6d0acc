-- `proc_timer::set_after` meets its contract: each need by its law.
use Rattle.proc_timer.specs.Set.{set_after, set_after-asks, set-asks}
use Rattle.proc_timer.proofs.set_after.Goals as goal

pub set_timer-requires : goal.set_timer-requires
set_timer-requires c = set-asks c.requires c.period_of.ensures

pub add_after-requires : goal.add_after-requires
add_after-requires c = rw c.set_timer.ensures.same.sizes (set_after-asks c.requires c.set_timer.ensures.became)

pub returns-clause-done : goal.returns-clause-done
returns-clause-done c =
    set_after c.period_of.ensures c.set_timer.ensures.became (rw c.set_timer.ensures.same.sizes at c.add_after.ensures.done)
