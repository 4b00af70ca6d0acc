-- `records::occupy` meets its contract: each need by its law.
use Rattle.records.specs.OccupyCode.{occupy_age, occupy_use, occupy-load, occupy-fit, occupied}
use Rattle.records.proofs.occupy.Goals as goal

pub use_record-requires : goal.use_record-requires
use_record-requires c = search occupy_use

pub age_in-requires : goal.age_in-requires
age_in-requires c = rw c.use_record.ensures.same.sizes (occupy_age c.requires c.use_record.ensures.done)

pub load-old-requires : goal.load-old-requires
load-old-requires c =
    let k = c.use_record.ensures.same.sizes in
    rw (c.view.ensures.sizes, c.age_in.ensures.same.sizes, k)
    (occupy-load c.requires c.use_record.ensures.done (rw k at c.age_in.ensures.done)).index

pub store-requires-clause-index : goal.store-requires-clause-index
store-requires-clause-index c =
    let k = c.use_record.ensures.same.sizes in
    rw (c.age_in.ensures.same.sizes, k)
    (occupy-load c.requires c.use_record.ensures.done (rw k at c.age_in.ensures.done)).index

pub store-requires-clause-fit : goal.store-requires-clause-fit
store-requires-clause-fit c =
    let k = c.use_record.ensures.same.sizes in
    occupy-fit c.requires c.use_record.ensures.done (rw k at c.age_in.ensures.done)
    (rw (c.view.ensures.bytes, c.view.ensures.sizes, c.age_in.ensures.same.sizes, k) at c.load-old.ensures.loaded)
    c.newborn.ensures

pub returns-clause-done : goal.returns-clause-done
returns-clause-done c =
    let k = c.use_record.ensures.same.sizes in
    occupied c.requires c.use_record.ensures.done (rw k at c.age_in.ensures.done)
    (rw (c.view.ensures.bytes, c.view.ensures.sizes, c.age_in.ensures.same.sizes, k) at c.load-old.ensures.loaded)
    c.newborn.ensures
    (rw (c.age_in.ensures.same.sizes, k) at c.store.ensures.stored)
