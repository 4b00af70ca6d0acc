-- `waitq::exits::unlink` meets its contract: a read and two stores.
use Rattle.waitq.specs.Lent.{unlinked-from}
use Rattle.waitq.proofs.exits.unlink.Goals as goal

pub returns-clause-unlinked : goal.returns-clause-unlinked
returns-clause-unlinked c = unlinked-from c.set.ensures.same c.get-next.ensures.value c.set.ensures.put c.set-2.ensures.put
