-- The number in one byte is that byte.
use Rattle.memory.specs.Le.{le-one}
use Rattle.memory.proofs.U8Number.load.Goals as goal

pub returns-clause-value : goal.returns-clause-value
returns-clause-value c = rw le-one
