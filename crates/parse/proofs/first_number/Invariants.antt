-- `parse::first_number` meets its contract: the bytes passed are of the first word, and digits of the value so far.
use Rattle.parse.specs.Numeral.{DigitsIn}
use Rattle.parse.proofs.first_number.Given as goal

abbrev pub invariant-loop-i : goal.invariant-loop-i
invariant-loop-i l = DigitsIn l.line l.value l.i
