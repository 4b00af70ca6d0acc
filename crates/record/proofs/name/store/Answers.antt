-- `record::name::store` meets its contract: the name's part lies within the bytes, and the stores are those of the name.
use Rattle.std.specs.Prelude.{refl}
use Rattle.std.proofs.Common.{rules}
use Rattle.record.specs.Loads.{name-end}
use Rattle.record.specs.Stores.{name-stored}
use Rattle.record.proofs.name.store.Goals as goal

pub slice_bounds-copy_from_slice-end : goal.slice_bounds-copy_from_slice-end
slice_bounds-copy_from_slice-end c = search (name-end c.args.s.now.sizes c.args.s.now.bytes.now)

pub returns-clause-stored : goal.returns-clause-stored
returns-clause-stored c =
    name-stored c.args.text c.requires c.args.s.now.long c.name_at-at.ensures.value (search rules) (rw c.copy_from_slice.ensures.after refl)
    (search rules)
