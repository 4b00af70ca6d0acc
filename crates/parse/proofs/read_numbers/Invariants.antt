-- `parse::read_numbers` meets its contract: the numbers so far are there, and `rest` follows them.
use Rattle.parse.specs.Fields.{Filling}
use Rattle.parse.specs.Words.{rest_of}
use Rattle.parse.proofs.read_numbers.Given as goal

abbrev pub invariant-loop-n : goal.invariant-loop-n
invariant-loop-n l = Filling (rest_of l.initial.rest) l.numbers l.n-index (rest_of l.rest)
