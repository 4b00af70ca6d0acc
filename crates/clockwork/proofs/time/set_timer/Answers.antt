-- `clockwork::time::set_timer` meets its contract: by its law of specs/Lent.antt.
use Rattle.clockwork.specs.Lent.{setting-stored}
use Rattle.clockwork.proofs.time.set_timer.Goals as goal

pub returns-clause-became : goal.returns-clause-became
returns-clause-became c = setting-stored c.requires c.set.ensures.same c.set.ensures.put c.set-2.ensures.put
