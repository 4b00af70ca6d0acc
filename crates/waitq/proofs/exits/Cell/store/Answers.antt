-- `waitq::exits::Cell::store` meets its contract: four stores.
use Rattle.state.specs.Sets.{sets_4}
use Rattle.waitq.specs.Push.{cell_stores}
use Rattle.waitq.proofs.exits.Cell.store.Goals as goal

pub returns-clause-stored : goal.returns-clause-stored
unfolding cell_stores
returns-clause-stored c =
    sets_4 c.set.ensures.same c.set-2.ensures.same c.set-3.ensures.same c.set.ensures.put c.set-2.ensures.put c.set-3.ensures.put
    c.set-4.ensures.put
