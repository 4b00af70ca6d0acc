-- `scan::unmet` meets its contract: the locks below q are right, and `left` waiters are not yet met.
use Rattle.state.specs.Places.{mem_in}
use Rattle.scan.specs.Locks.{Locking}
use Rattle.scan.proofs.unmet.Given as goal

abbrev pub invariant-loop-q : goal.invariant-loop-q
invariant-loop-q l = Locking l.v.sizes (mem_in l.v.sizes l.v.bytes.now) l.queueing l.left l.q
