-- `waitq::exits::set_head` meets its contract: two stores.
use Rattle.state.specs.Sets.{sets_2}
use Rattle.waitq.specs.Push.{head_stores}
use Rattle.waitq.proofs.exits.set_head.Goals as goal

pub returns-clause-stored : goal.returns-clause-stored
unfolding head_stores
returns-clause-stored c = sets_2 c.set.ensures.same c.set.ensures.put c.set-2.ensures.put
