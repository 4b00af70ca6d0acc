-- `proc_exit::leave` meets its contract: each need by its law.
use Rattle.proc_exit.specs.Leave.{leave-clear, leave-release, leave-stop, left}
use Rattle.proc_exit.proofs.leave.Goals as goal

pub take_all-requires : goal.take_all-requires
take_all-requires c = leave-clear c.requires

pub stop-requires : goal.stop-requires
stop-requires c = rw c.take_all.ensures.same.sizes (leave-stop c.requires c.take_all.ensures.cleared)

pub release-requires : goal.release-requires
release-requires c =
    let k = c.take_all.ensures.same.sizes in
    rw (c.stop.ensures.same.sizes, k) (leave-release c.requires c.take_all.ensures.cleared (rw k at c.stop.ensures.done))

pub returns-clause-done : goal.returns-clause-done
returns-clause-done c =
    let k = c.take_all.ensures.same.sizes in
    left c.requires c.take_all.ensures.cleared (rw k at c.stop.ensures.done)
    (rw (c.stop.ensures.same.sizes, k) at c.release.ensures.done)
