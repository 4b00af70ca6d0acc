-- `proc_intr::fire` meets its contract: each need by its law.
use Rattle.proc_intr.specs.Fire.{fire-readd, fired}
use Rattle.proc_intr.proofs.fire.Goals as goal

pub readd-requires : goal.readd-requires
readd-requires c = rw c.callback.ensures.same.sizes (fire-readd c.requires c.callback.ensures.done.took)

pub returns-clause-done : goal.returns-clause-done
returns-clause-done c =
    fired c.requires c.callback.ensures.done.took (rw c.callback.ensures.same.sizes at c.readd.ensures.readded)
