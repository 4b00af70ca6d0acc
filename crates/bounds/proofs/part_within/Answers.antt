-- `bounds::part_within` meets its contract: `fits` says whether all records of the part are within.
use Rattle.std.proofs.Common.{arith}
use Rattle.bounds.specs.Column.{WithinFrom}
use Rattle.bounds.proofs.part_within.Goals as goal

pub returns : goal.returns
unfolding WithinFrom
returns g c = (λ t k b h. c.loop-i.invariant.0 t k b (omega arith), λ w. c.loop-i.invariant.1 (λ k b h. w k b (omega arith)))
