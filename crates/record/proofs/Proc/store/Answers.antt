-- `record::Proc::store` meets its contract: three runs of stores.
use Rattle.state.specs.Sets.{stores-runs}
use Rattle.record.proofs.Proc.store.Goals as goal

pub returns-clause-stored : goal.returns-clause-stored
returns-clause-stored c =
    stores-runs c.store_numbers.ensures.same c.store.ensures.same c.store_numbers.ensures.stored c.store.ensures.stored c.store-2.ensures.stored
