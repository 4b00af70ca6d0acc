-- `parse::store` meets its contract: the first `j` numbers are there.
use Rattle.std.proofs.Common.{arith}
use Rattle.parse.specs.Puts.{storing_start, storing_more, stored}
use Rattle.parse.proofs.store.Goals as goal

pub loop-j-init : goal.loop-j-init
loop-j-init c = storing_start

pub loop-j-preserved : goal.loop-j-preserved
loop-j-preserved c = storing_more c.loop-j.invariant c.requires (omega arith) c.store.ensures

pub returns : goal.returns
returns c = stored c.loop-j.invariant c.requires (omega arith)
