-- `clockwork::conditions::holds` meets its contract: by its law of specs/Conditions.antt.
use Rattle.clockwork.specs.Conditions.{condition-is}
use Rattle.clockwork.proofs.conditions.holds.Goals as goal

pub returns : goal.returns
returns c = condition-is c.requires c.ranges.c (rw c.from.ensures at c.get.ensures.value)
