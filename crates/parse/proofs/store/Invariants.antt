-- `parse::store` meets its contract: the first `j` numbers are there.
use Rattle.parse.specs.Puts.{Storing}
use Rattle.parse.proofs.store.Given as goal

abbrev pub invariant-loop-j : goal.invariant-loop-j
invariant-loop-j l = Storing l.numbers l.initial.out l.out l.j
