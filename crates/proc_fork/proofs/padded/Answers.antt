-- `proc_fork::padded` meets its contract: the bytes, and what is left of twenty-eight zeros.
use Rattle.proc_fork.specs.Pad.{padded_lem}
use Rattle.proc_fork.proofs.padded.Goals as goal

pub returns : goal.returns
returns c = rw c.copy_from_slice.ensures.after (padded_lem c.args.bytes.now)
