-- `bounds::bytes_within` meets its contract: by the groups, and by what a byte can be.
use Rattle.std.proofs.Common.{arith}
use Rattle.bounds.specs.InRange.{groups-decide}
use Rattle.bounds.proofs.bytes_within.Goals as goal

pub returns : goal.returns
returns c = groups-decide c.requires.long (λ k. omega (arith, c.type_inv.s k)) c.groups_within.ensures
