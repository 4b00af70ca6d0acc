-- What the check decides of a state's bytes. proofs/Exact.antt proves that it is well-formedness.
use Rattle.std.specs.Prelude.{◌≡◌, List, ℕ}
use Rattle.machine.specs.Machine.{Sizes}
use Rattle.machine.specs.Good.{SizesInRange}
use Rattle.layout.specs.Memory.{mem}
use Rattle.layout.specs.Writes.{State}
use Rattle.state.specs.Fields as fields
use Rattle.state.specs.WellFormed.{mark_value}
use Rattle.rules.specs.Facts.{Facts}

-- What the check decides of bytes at sizes z.
pub record Checked (z : Sizes) (s : List ℕ) : Type 0 where
  pub sizes : SizesInRange z
  pub state : State fields.layout1 (fields.most_of z) (fields.counts z) s
  pub mark : mem fields.layout1 (fields.counts z) s fields.mark 0 ≡ mark_value
  pub layout : mem fields.layout1 (fields.counts z) s fields.layout_number 0 ≡ 1
  pub facts : Facts z (mem fields.layout1 (fields.counts z) s)
