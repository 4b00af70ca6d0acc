-- `make::put_header` meets its contract: the marks, four sizes, and the rest.
use Rattle.state.specs.Sets.{same_join, sets_3, sets_4, stores-runs}
use Rattle.make.specs.Fresh.{fresh_stores}
use Rattle.make.proofs.put_header.Goals as goal

pub returns-clause-stored : goal.returns-clause-stored
unfolding fresh_stores
returns-clause-stored c =
    stores-runs (same_join (same_join c.set.ensures.same c.set-2.ensures.same) c.set-3.ensures.same)
    (same_join (same_join (same_join c.set-4.ensures.same c.set-5.ensures.same) c.set-6.ensures.same) c.set-7.ensures.same)
    (sets_3 c.set.ensures.same c.set-2.ensures.same c.set.ensures.put c.set-2.ensures.put c.set-3.ensures.put)
    (sets_4 c.set-4.ensures.same c.set-5.ensures.same c.set-6.ensures.same c.set-4.ensures.put c.set-5.ensures.put c.set-6.ensures.put c.set-7.ensures.put)
    (sets_3 c.set-8.ensures.same c.set-9.ensures.same c.set-8.ensures.put c.set-9.ensures.put (rw c.to_counts.ensures at c.set-10.ensures.put))
