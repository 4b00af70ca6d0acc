-- `decode::numbers` meets its contract: number by number.
use Rattle.decode.specs.Fields.{Filled}
use Rattle.decode.proofs.numbers.Given as goal

abbrev pub invariant-loop-j : goal.invariant-loop-j
invariant-loop-j g l = Filled g.row.N l.fn.b l.fields l.j
