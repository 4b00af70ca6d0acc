-- `print::put_digits` meets its contract: the digits behind `i` are there, and those of `m` are left. The measure is `m`.
use Rattle.print.specs.Decimal.{Filling}
use Rattle.print.proofs.put_digits.Given as goal

abbrev pub invariant-loop-m : goal.invariant-loop-m
invariant-loop-m l = Filling l.initial.out l.n l.out l.i l.m

abbrev pub decreases-loop-m : goal.decreases-loop-m
decreases-loop-m l = l.m
