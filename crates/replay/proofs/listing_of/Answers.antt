-- `replay::listing_of` meets its contract: each need by its law.
use Rattle.std.proofs.Common.{arith}
use Rattle.step.specs.Exported.{checked_long}
use Rattle.replay.specs.Replay.{list-asks}
use Rattle.replay.proofs.listing_of.Goals as goal

pub load_sizes-sizes-requires : goal.load_sizes-sizes-requires
load_sizes-sizes-requires c = checked_long _ c.if-not-check.false c.check.ensures

pub list-requires : goal.list-requires
list-requires c = list-asks c.if-not-check.false c.check.ensures c.load_sizes-sizes.ensures (omega arith)
