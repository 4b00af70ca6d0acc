-- `listing::Listing::finish` meets its contract: a line is begun, or none.
use Rattle.std.proofs.Common.{arith}
use Rattle.listing.specs.Finish.{finish-none, finish-line}
use Rattle.listing.proofs.Listing.finish.Goals as goal

pub returns-then-self-ne0-clause-finished : goal.returns-then-self-ne0-clause-finished
returns-then-self-ne0-clause-finished c = finish-line c.requires (λ e. omega arith) c.take_line.ensures.taken

pub returns-else-self-ne0-clause-finished : goal.returns-else-self-ne0-clause-finished
returns-else-self-ne0-clause-finished c = finish-none c.requires (omega arith)
