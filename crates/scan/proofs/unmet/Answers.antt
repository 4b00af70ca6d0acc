-- `scan::unmet` meets its contract: the locks below q are right, and `left` waiters are not yet met.
use Rattle.scan.specs.Locks.{locking_start, locking_more, locking_bad, locking_end}
use Rattle.scan.proofs.unmet.Goals as goal

pub loop-q-init : goal.loop-q-init
loop-q-init c = locking_start

pub returns-in_err-count : goal.returns-in_err-count
returns-in_err-count c = rw c.from_residual.ensures (locking_bad c.loop-q.invariant c.loop-q-test.true c.in_err-count.ensures)

pub loop-q-preserved : goal.loop-q-preserved
loop-q-preserved c = locking_more c.loop-q.invariant c.loop-q-test.true c.in_ok-count.ensures

pub returns : goal.returns
returns c = locking_end c.loop-q.invariant c.loop-q-test.false
