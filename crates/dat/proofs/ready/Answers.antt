-- `dat::ready` meets its contract: each need by its law.
use Rattle.dat.specs.Run.{ready-push-at, readied-at}
use Rattle.dat.proofs.ready.Goals as goal

pub push-requires : goal.push-requires
push-requires c = ready-push-at c.requires

pub returns-clause-done : goal.returns-clause-done
returns-clause-done c = readied-at c.requires c.push.ensures.done (rw (c.number.ensures, c.push.ensures.same.sizes) at c.set.ensures.put)
