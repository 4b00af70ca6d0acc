-- `proc_timer::add_after` meets its contract: each need by its law.
use Rattle.std.proofs.Common.{rules}
use Rattle.proc_timer.specs.After.{added-after, after-add}
use Rattle.proc_timer.proofs.add_after.Goals as goal

pub add-requires : goal.add-requires
add-requires c = rw c.set_now.ensures.same.sizes (after-add c.requires c.set_now.ensures.became)

pub returns-clause-done : goal.returns-clause-done
returns-clause-done c =
    let done =
    added-after c.set_now.ensures.became (rw c.set_now.ensures.same.sizes at c.add.ensures.added)
    in search rules
