-- `listing::Listing::turn` meets its contract: the chunk is held, or a line is taken.
use Rattle.listing.specs.Rest.{turn-all, turn-split, split-rest}
use Rattle.listing.proofs.Listing.turn.Goals as goal

pub returns-in-Some-clause-turned : goal.returns-in-Some-clause-turned
returns-in-Some-clause-turned c =
    rw c.take_text.ensures.number
    (turn-split c.take_text.new.self.held c.requires c.in-Some.ensures.line c.take_text.ensures.took)

pub returns-in-Some-clause-rest : goal.returns-in-Some-clause-rest
returns-in-Some-clause-rest c = split-rest c.in-Some.ensures.line

pub returns-in-None-clause-turned : goal.returns-in-None-clause-turned
returns-in-None-clause-turned c = turn-all c.requires c.in-None.ensures.none c.keep-self.ensures
