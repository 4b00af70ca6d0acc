-- `listing::Listing::take_text` meets its contract: the end of a line begun before.
use Rattle.listing.specs.Turn.{text-begun}
use Rattle.listing.proofs.Listing.take_text.Goals as goal

pub returns-else-self-eq0-clause-took : goal.returns-else-self-eq0-clause-took
returns-else-self-eq0-clause-took c = text-begun c.requires c.keep-have.ensures c.take_line-else-self-eq0.ensures.taken
