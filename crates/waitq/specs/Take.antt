-- What `exits::take` asks and ensures: the newest exit goes, its cell is marked as free, and every group of the state is kept.
use Rattle.std.specs.Prelude.{◌≡◌, List, ◌∷◌, ◌++◌, ℕ, ◌-◌, ◌≤◌, ◌<◌}
use Rattle.machine.specs.Machine.{process}
use Rattle.machine.specs.Update.{with_process}
use Rattle.machine.specs.Perform.{take_exit, newest}
use Rattle.layout.specs.Memory.{Memory}
use Rattle.layout.specs.Writes.{Write}
use Rattle.chain.specs.Links.{rest}
use Rattle.state.specs.Fields as fields
use Rattle.state.specs.Abs.{exit_at, exit_list}
use Rattle.state.specs.Places.{sizes_in, mem_in}
use Rattle.state.specs.WellFormed.{Used}
use Rattle.state.specs.declared.Sizes.{Sizes}
use Rattle.holds.specs.Holds.{Holds}
use Rattle.holds.specs.Use.{Fewer}
use Rattle.holds.specs.Leftover.{Ceased}
use Rattle.holds.specs.Did.{Did, machine_in, same}
use Rattle.free.specs.UseCell.{drop_cell_writes, drop_cell_mem}
use Rattle.waitq.specs.Change.{Changed}
use Rattle.waitq.specs.Pop.{pop_stores, pop_mem}

-- The stores, n being how many cells there are, and the memory then.
unfoldable pub take_stores : ℕ → Memory → ℕ → ℕ → List Write
take_stores n m i c = drop_cell_writes n m c ++ pop_stores m i c

abbrev pub take_mem : ℕ → Memory → ℕ → ℕ → Memory
take_mem n m i c = pop_mem (drop_cell_mem n m c) i c

-- What the code asks: every group holds, and the record has an exit.
pub record TakeAsks (z : Sizes) (s : List ℕ) (i : ℕ) : Type 0 where
  pub owed : ℕ
  pub holds : Holds z s owed
  pub used : Used (mem_in z s) i
  pub some : 0 < mem_in z s fields.nexits i

-- What it does; the answer is the link to the newest, whose cell is free then.
pub record TakeDone (z : Sizes) (s s' : List ℕ) (i r : ℕ) : Type 0 where
  pub did : Did z s s' same same (take_stores z.cells (mem_in z s) i (r - 1)) (take_mem z.cells (mem_in z s) i (r - 1))
      (with_process i (take_exit (process (machine_in z s) i)) (machine_in z s))
  pub link : r ≡ mem_in z s fields.exits i
  pub range : (0 < r) × (r ≤ z.cells)
  pub list : exit_list (mem_in z s) i ≡ (r - 1) ∷ exit_list (mem_in z s') i
  pub changed : Changed (sizes_in z) (mem_in z s) (mem_in z s') i (rest (exit_list (mem_in z s) i))
  pub newest : newest (process (machine_in z s) i) ≡ exit_at (mem_in z s) (r - 1)
  pub fewer : Fewer z (mem_in z s) (mem_in z s')
  pub ceased : Ceased z (mem_in z s) (mem_in z s')
