-- `listing::begin` meets its contract: the text is the first line.
use Rattle.machine.specs.Basics.{ascii}
use Rattle.machine.specs.Listing.{header}
use Rattle.listing.proofs.begin.Goals as goal

pub returns-clause-put : goal.returns-clause-put
unfolding ascii header
returns-clause-put c = c.text.ensures.put
