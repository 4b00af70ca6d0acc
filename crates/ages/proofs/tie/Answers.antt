-- `ages::tie` meets its contract: each return cites its law of specs/Way.antt.
use Rattle.ages.specs.Way.{way-first, way-before, tied-first, tied-before}
use Rattle.ages.proofs.tie.Goals as goal

pub set-requires-in_default-clause-reach : goal.set-requires-in_default-clause-reach
set-requires-in_default-clause-reach c = search way-first

pub returns-in_default-clause-tied : goal.returns-in_default-clause-tied
returns-in_default-clause-tied c = search tied-first

pub set-requires-2-clause-reach : goal.set-requires-2-clause-reach
set-requires-2-clause-reach c = search way-before

pub returns-clause-tied : goal.returns-clause-tied
returns-clause-tied c = search tied-before
