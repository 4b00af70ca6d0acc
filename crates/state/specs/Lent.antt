-- What stays of a lent state: its sizes, and whose bytes they are.
use Rattle.std.specs.Prelude.{◌≡◌}
use Rattle.state.specs.declared.lent.State.{State}

pub record Same (s t : State) : Type 0 where
  pub sizes : t.sizes ≡ s.sizes
  pub lender : t.bytes.ghost_name ≡ s.bytes.ghost_name
