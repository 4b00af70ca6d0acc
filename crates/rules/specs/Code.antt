-- What the functions of the check ask and ensure.
use Rattle.std.specs.Prelude.{Bool, true, false, List, ℕ, ◌≤◌, length}
use Rattle.machine.specs.Good.{SizesInRange}
use Rattle.layout.specs.Writes.{State}
use Rattle.state.specs.Fields.{layout1, counts, most_of}
use Rattle.state.specs.Places.{sizes_in, total_in}
pub use Rattle.state.specs.Places.{mem_in}
use Rattle.state.specs.declared.Sizes.{Sizes}

-- The sizes are in range, and the bytes are as many as a state of these sizes takes.
pub record Long (z : Sizes) (s : List ℕ) : Type 0 where
  pub sizes : SizesInRange (sizes_in z)
  pub long : total_in z ≤ length s

-- And every field is in range.
pub record Whole (z : Sizes) (s : List ℕ) : Type 0 where
  pub sizes : SizesInRange (sizes_in z)
  pub state : State layout1 (most_of (sizes_in z)) (counts (sizes_in z)) s

-- A test decides a statement: true where it holds, and false where it does not.
abbrev pub Decides : Bool → Type 0 → Type 0
Decides true P = P
Decides false P = P → ⊥
