-- `print::Out::refused` meets its contract: a word and the number are put.
use Rattle.machine.specs.Basics.{ascii}
use Rattle.machine.specs.Print.{print_reply}
use Rattle.print.proofs.Out.refused.Goals as goal

pub returns-clause-put : goal.returns-clause-put
unfolding ascii print_reply
returns-clause-put c = rw c.from.ensures at c.number.ensures.put
