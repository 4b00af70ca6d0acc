-- `proc_intr::fire_due` meets its contract. The invariant: from here the definition goes on to where it takes the first bytes. The measure
-- is the firings owed.
use Rattle.state.specs.Lent.{Same}
use Rattle.proc_intr.specs.Owed.{owed_in}
use Rattle.proc_intr.specs.Interrupt.{Interrupting}
use Rattle.proc_intr.proofs.fire_due.Given as goal

abbrev pub invariant-loop-t : goal.invariant-loop-t
invariant-loop-t l = Same l.initial.s l.s × Interrupting l.initial.s.sizes l.initial.s.bytes.now l.s.bytes.now l.reading l.fired

abbrev pub decreases-loop-t : goal.decreases-loop-t
decreases-loop-t l = owed_in l.initial.s.sizes l.s.bytes.now l.reading
