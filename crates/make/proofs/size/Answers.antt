-- `make::size` meets its contract, by each way out.
use Rattle.make.specs.Answers.{size-no, size-yes}
use Rattle.make.proofs.size.Goals as goal

pub returns-in-None : goal.returns-in-None
returns-in-None c = size-no c.in-None.ensures

pub returns-in-Some : goal.returns-in-Some
returns-in-Some c = size-yes c.in-Some.sizes c.in-Some.ensures c.total.ensures.value
