-- The four bytes, as std reads them.
use Rattle.std.proofs.Common.{◌∙◌}
use Rattle.memory.specs.Bytes.{bytes-read}
use Rattle.memory.proofs.U32Number.load.Goals as goal

pub returns-clause-value : goal.returns-clause-value
returns-clause-value c = c.from_le_bytes.ensures ∙ bytes-read 3 c.args.s.now c.args.at c.copy_from_slice.ensures.after
