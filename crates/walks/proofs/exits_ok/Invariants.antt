-- `walks::exits_ok` meets its contract: k cells were met. The measure is how many more the record says there are.
use Rattle.std.specs.Prelude.{◌-◌}
use Rattle.memory.specs.Link.{link}
use Rattle.state.specs.Fields as fields
use Rattle.rules.specs.Code.{mem_in}
use Rattle.walks.specs.Exits.{ExitWalking}
use Rattle.walks.proofs.exits_ok.Given as goal

abbrev pub invariant-loop-at : goal.invariant-loop-at
invariant-loop-at l = ExitWalking l.v.sizes l.v.bytes.now l.i (link l.at) l.k

abbrev pub decreases-loop-at : goal.decreases-loop-at
decreases-loop-at l = mem_in l.v.sizes l.v.bytes.now fields.nexits l.i - l.k
