-- `scan::count_states` meets its contract: at each turn the records below i are counted.
use Rattle.state.specs.Places.{mem_in}
use Rattle.scan.specs.Tallies.{Counting}
use Rattle.scan.proofs.count_states.Given as goal

abbrev pub invariant-loop-i : goal.invariant-loop-i
invariant-loop-i l = Counting (mem_in l.v.sizes l.v.bytes.now) l.ready l.asleep l.queueing l.i
