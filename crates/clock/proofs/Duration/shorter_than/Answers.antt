-- `clock::Duration::shorter_than` meets its contract: a law for each return.
use Rattle.clock.specs.Shown.{shorter_far, shorter-near, longer_far, longer_near}
use Rattle.clock.proofs.Duration.shorter_than.Goals as goal

pub returns-then-more-ge5 : goal.returns-then-more-ge5
returns-then-more-ge5 c = search shorter_far

pub returns-else-more-ge5 : goal.returns-else-more-ge5
returns-else-more-ge5 c = rw (c.from-nanos.ensures, c.from-others.ensures) (search shorter-near)

pub returns-then-less-lt5 : goal.returns-then-less-lt5
returns-then-less-lt5 c = rw (c.from-nanos.ensures, c.from-others.ensures) (search longer_near)

pub returns-else-less-lt5 : goal.returns-else-less-lt5
returns-else-less-lt5 c = search longer_far
