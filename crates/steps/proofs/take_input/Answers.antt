-- `steps::take_input`: the listing starts with a fresh state and room for a chunk.
use Rattle.std.proofs.Common.{arith}
use Rattle.steps.specs.All.{all-asks}
use Rattle.steps.proofs.take_input.Goals as goal

pub take_all-requires : goal.take_all-requires
take_all-requires g c = all-asks c.start-sizes.ensures c.requires.most (omega arith) (omega (arith, c.requires.room))
