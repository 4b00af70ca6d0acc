-- `record::name::load` meets its contract: the name's part lies within the bytes, and is the name.
use Rattle.record.specs.Loads.{name-end, named}
use Rattle.record.proofs.name.load.Goals as goal

pub slice_bounds-copy_from_slice-end-2 : goal.slice_bounds-copy_from_slice-end-2
slice_bounds-copy_from_slice-end-2 c = search (name-end c.args.v.now.sizes c.args.v.now.bytes.now)

pub returns : goal.returns
returns c = search named
