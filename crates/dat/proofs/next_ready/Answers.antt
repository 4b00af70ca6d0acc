-- `dat::next_ready` meets its contract: each need by its law.
use Rattle.dat.specs.Run.{next-pop-at, next-taken}
use Rattle.dat.proofs.next_ready.Goals as goal

pub pop-requires : goal.pop-requires
pop-requires c = next-pop-at c.requires

pub returns-clause-done : goal.returns-clause-done
returns-clause-done c = next-taken c.requires c.pop.ensures.done
