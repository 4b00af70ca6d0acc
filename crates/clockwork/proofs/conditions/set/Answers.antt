-- `clockwork::conditions::set` meets its contract: by its law of specs/Conditions.antt.
use Rattle.clockwork.specs.Conditions.{condition-set}
use Rattle.clockwork.specs.Lent.{from_bit}
use Rattle.clockwork.proofs.conditions.set.Goals as goal

pub returns-clause-became : goal.returns-clause-became
returns-clause-became c = condition-set c.args.v c.requires c.ranges.c (from_bit c.args.v c.from-2.ensures) (rw c.from.ensures at c.set.ensures.put)
