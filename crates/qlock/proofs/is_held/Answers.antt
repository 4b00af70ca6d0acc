-- `qlock::is_held` meets its contract: by its law of specs/Hold.antt.
use Rattle.qlock.specs.Hold.{held-said}
use Rattle.qlock.proofs.is_held.Goals as goal

pub returns : goal.returns
returns c = held-said c.requires c.get.ensures.value
