-- `dat::awaken` meets its contract: each need by its law.
use Rattle.dat.specs.Asleep.{lessened, awaken-less, awaken-ready, awakened}
use Rattle.dat.proofs.awaken.Goals as goal

pub ready-requires : goal.ready-requires
ready-requires c =
    rw c.set.ensures.same.sizes (awaken-ready c.requires (lessened (awaken-less c.requires) c.get-n.ensures.value c.set.ensures.put))

pub returns-clause-done : goal.returns-clause-done
returns-clause-done c =
    awakened c.requires (lessened (awaken-less c.requires) c.get-n.ensures.value c.set.ensures.put)
    (rw c.set.ensures.same.sizes at c.ready.ensures.done)
