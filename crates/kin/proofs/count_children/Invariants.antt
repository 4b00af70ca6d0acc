-- `kin::count_children` meets its contract: the children below i are counted.
use Rattle.rules.specs.Code.{mem_in}
use Rattle.kin.specs.Count.{Counting}
use Rattle.kin.proofs.count_children.Given as goal

abbrev pub invariant-loop-i : goal.invariant-loop-i
invariant-loop-i l = Counting (mem_in l.v.sizes l.v.bytes.now) l.v.sizes.processes l.i l.children
